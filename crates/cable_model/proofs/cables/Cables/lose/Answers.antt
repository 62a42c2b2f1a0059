use Rattle.std.proofs.Common.{rules, ◌≡◌, ◌≤◌, true, false, arith, length, sym, ap, vec_len, ◌∙◌}
use Rattle.std.specs.List.{list_any}
use Rattle.cable_model.proofs.Stamps.{put_below}
use Rattle.cable_model.proofs.Stored.{when_some}
use Rattle.cable_model.proofs.Takes.{no_spare, roomy}
use Rattle.cable_model.specs.Books.{said as said_in}
use Rattle.std.specs.Prelude.{is_some}
use Rattle.cable_model.specs.Logs.{transcript as said}
use Rattle.cable_model.specs.Outcomes.{has_stamp}
use Rattle.cable_model.specs.Pending.{pending as pending_on}
use Rattle.cable_model.proofs.cables.Cables.lose.Goals as goal

pub returns-then-is_none-clause-not_pending : goal.returns-then-is_none-clause-not_pending
returns-then-is_none-clause-not_pending c =
    let v : list_any (has_stamp c.args.stamp) (pending_on c.args.self.now.seats (said c.args.self.now)) ≡ false =
    rw (← c.self.view_is) (sym (c.find_frame.ensures.value c.self.inside.seats c.self.invariant.0.book) ∙ search rules) in
    search rules

pub returns-then-is_none-clause-full : goal.returns-then-is_none-clause-full
returns-then-is_none-clause-full c =
    let v : list_any (has_stamp c.args.stamp) (pending_on c.args.self.now.seats (said c.args.self.now)) ≡ false =
    rw (← c.self.view_is) (sym (c.find_frame.ensures.value c.self.inside.seats c.self.invariant.0.book) ∙ search rules) in
    search rules

pub invariant_of-self : goal.invariant_of-self
invariant_of-self c = roomy c.make_room.ensures.same c.self.invariant

pub returns-in-Err-clause-not_pending : goal.returns-in-Err-clause-not_pending
returns-in-Err-clause-not_pending c =
    let v : list_any (has_stamp c.args.stamp) (pending_on c.args.self.now.seats (said c.args.self.now)) ≡ true =
    rw (← c.self.view_is) (sym (c.find_frame.ensures.value c.self.inside.seats c.self.invariant.0.book) ∙ search rules) in
    search rules

pub returns-in-Err-clause-full : goal.returns-in-Err-clause-full
returns-in-Err-clause-full c =
    let v : list_any (has_stamp c.args.stamp) (pending_on c.args.self.now.seats (said c.args.self.now)) ≡ true =
    rw (← c.self.view_is) (sym (c.find_frame.ensures.value c.self.inside.seats c.self.invariant.0.book) ∙ search rules) in
    search rules

pub lost-requires-clause-earlier : goal.lost-requires-clause-earlier
lost-requires-clause-earlier c =
    let some : is_some c.find_frame.result ≡ true = search rules in
    let book = c.self.invariant.0.book in
    let put = when_some c.find_frame.result some (c.find_frame.ensures.put c.self.inside.seats book) in
    let e = put_below (said_in c.self.inside.log) c.args.stamp put in
    omega (arith, e, book.next, c.make_room.ensures.same.next_stamp)

pub invariant_of-self-2 : goal.invariant_of-self-2
invariant_of-self-2 c =
    let s = c.self.inside.seats in
    let limit = c.self.inside.limit in
    let k = (roomy c.make_room.ensures.same c.self.invariant).0 in
    let kept = ap (λ k. length k.items) c.lost.ensures.kept in
    let used = c.lost.ensures.uses in
    let few : vec_len c.lost.new.log.lines ≤ limit = omega (arith, c.lost.ensures.one, c.in-Ok.ensures.within) in (
      record {
        book = c.lost.ensures.book s k.book;
        few = few;
        named = omega (arith, k.named, kept, c.lost.ensures.one);
        frames = omega (arith, k.frames, c.lost.ensures.next_stamp, c.lost.ensures.one);
        idle = ap (λ v. v.items) c.lost.ensures.waiting ∙ k.idle;
        one_seat = k.one_seat;
      },
      c.self.invariant.1,
      no_spare s limit c.lost.new.log,
    )

pub returns-clause-not_pending : goal.returns-clause-not_pending
returns-clause-not_pending c =
    let v : list_any (has_stamp c.args.stamp) (pending_on c.args.self.now.seats (said c.args.self.now)) ≡ true =
    rw (← c.self.view_is) (sym (c.find_frame.ensures.value c.self.inside.seats c.self.invariant.0.book) ∙ search rules) in
    search rules
