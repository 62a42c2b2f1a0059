use Rattle.std.proofs.Common.{[], ◌∷◌, ◌≡◌, ◌≤◌, ◌*◌, arith, ap, length, vec_len, ◌∙◌}
use Rattle.cable_model.proofs.Steps.{adds_of, grows_then, same_grows, told}
use Rattle.cable_model.proofs.Takes.{no_spare, roomy}
use Rattle.cable_model.specs.Books.{Grows}
use Rattle.cable_model.specs.Outcomes.{framed}
use Rattle.cable_model.proofs.cables.Cables.put.Goals as goal
use Rattle.cable_model.specs.Places.{widest}

pub invariant_of-self : goal.invariant_of-self
invariant_of-self c = roomy c.make_room.ensures.same c.self.invariant

pub put-requires-clause-book : goal.put-requires-clause-book
put-requires-clause-book c =
    (c.keep-number.ensures.book c.self.inside.seats
    (roomy c.make_room.ensures.same c.self.invariant).0.book)

pub invariant_of-self-2 : goal.invariant_of-self-2
invariant_of-self-2 c =
    let s = c.self.inside.seats in
    let limit = c.self.inside.limit in
    let k = (roomy c.make_room.ensures.same c.self.invariant).0 in
    let kept = ap (λ k. length k.items) c.put.ensures.kept in
    let lines = ap (λ v. v.len) c.keep-number.ensures.lines in
    let number = c.keep-number.ensures.uses in
    let used = c.put.ensures.uses in
    let room = c.in-Ok-make_room.ensures.room in
    let frames : 1 * c.widest.result ≡ 1 * widest s = ap (λ n. 1 * n) c.widest.ensures.value in
    let few : vec_len c.put.new.log.lines ≤ limit = omega (arith, c.put.ensures.one, lines, c.in-Ok-make_room.ensures.within) in (
      record {
        book = c.put.ensures.book;
        few = few;
        named = omega (arith, k.named, kept, c.put.ensures.one, lines, c.keep-number.ensures.one);
        frames = omega (arith, k.frames, c.put.ensures.next_stamp, c.keep-number.ensures.next_stamp, c.put.ensures.one, lines);
        idle = ap (λ v. v.items) c.put.ensures.waiting ∙ (ap (λ v. v.items) c.keep-number.ensures.waiting ∙ k.idle);
        one_seat = k.one_seat;
      },
      c.self.invariant.1,
      no_spare s limit c.put.new.log,
    )

pub returns-clause-ok : goal.returns-clause-ok
returns-clause-ok c =
    let s = c.self.inside.seats in
    let same = same_grows c.self.inside.log c.make_room.new.log c.make_room.ensures.same in
    let kept = c.keep-number.ensures.grows s (roomy c.make_room.ensures.same c.self.invariant).0.book in
    let put : Grows c.keep-number.new.log c.put.new.log
    (framed (record { stamp = c.make_room.new.log.next_stamp; cable = c.args.cable; station = c.args.station }) c.args.to c.args.kind
    c.args.bytes ∷ []) [] =
    rw (← c.keep-number.ensures.next_stamp, ← c.keep-number.ensures.bytes) c.put.ensures.grows in
    let all = grows_then c.self.inside.log c.make_room.new.log c.put.new.log [] _ [] _ same
    (grows_then c.make_room.new.log c.keep-number.new.log c.put.new.log [] _ [] _ kept put) in
    rw (← c.self.view_is) (
      c.make_room.ensures.same.next_stamp ∙ c.self.invariant.0.book.next,
      adds_of s c.self.inside.limit c.self.inside.rooms c.self.inside.log c.put.new.log _ _ _
          (told c.self.inside.log c.put.new.log _ [] all),
    )
