use Rattle.std.proofs.Common.{◌≡◌, ◌≤◌, ◌+◌, ◌*◌, ◌⊎◌, ◌∙◌, List, [], ◌∷◌, ap, arith, length, refl, subst, sym, vec_len}
use Rattle.cable_model.proofs.Outs.{few_left, first_so_far, last_so_far, next_so_far, none_where_known, resolver_same, room_to_settle}
use Rattle.cable_model.proofs.Outs.{rooms_left}
use Rattle.cable_model.specs.Books.{HasHeldRoom, HasRoom}
use Rattle.cable_model.specs.Outcomes.{Places}
use Rattle.cable_model.specs.Outgoing.{IsAnswering}
use Rattle.cable_model.specs.Ways.{all_lines, all_spare, lines_for}
use Rattle.cable_model.proofs.outcome.add_all.Goals as goal
use Rattle.cable_model.specs.Places.{widest}

pub loop-output-init : goal.loop-output-init
loop-output-init g c = record {
  book = c.requires.book;
  idle = c.requires.idle;
  room = c.requires.room;
  more = c.requires.more;
  so_far =
      first_so_far (λ r. record { finds = g.R.Resolve.finds r; lists = g.R.Resolve.lists r }) g.R.Resolve.holds c.args.seats.now
      c.args.station c.args.log.now c.args.outputs.now.items c.args.resolver.now;
  few = omega arith;
  known = λ known. (refl, omega arith);
  named = omega arith;
  steady = omega arith;
  unchanged = λ none. (refl, none);
}

pub settle-requires-clause-room : goal.settle-requires-clause-room
settle-requires-clause-room g c =
    let places : Places = record { finds = g.R.Resolve.finds c.loop-output.resolver; lists = g.R.Resolve.lists c.loop-output.resolver } in
    let i = c.loop-output.invariant in
    let n = widest c.args.seats.now in
    room_to_settle places c.args.seats.now c.args.station c.loop-output.log c.add.new.log c.in-Some.output i.book c.add.ensures.book i.idle
    c.add.ensures.grows c.add.ensures.uses c.pop.new.self.items
    (subst (λ os. IsAnswering places ⊎ HasHeldRoom c.loop-output.log os n) c.in-Some.ensures.some i.more)

pub loop-output-preserved : goal.loop-output-preserved
loop-output-preserved g c =
    let view : g.row.R.Denot → Places = λ r. record { finds = g.R.Resolve.finds r; lists = g.R.Resolve.lists r } in
    let i = c.loop-output.invariant in
    let seats = c.args.seats.now in
    let station = c.args.station in
    let a = c.loop-output.log in
    let b = c.add.new.log in
    let d = c.settle.new.log in
    let x = c.loop-output.resolver in
    let z = c.settle.new.resolver in
    let o = c.in-Some.output in
    let os = c.loop-output.outputs.items in
    let rest = c.pop.new.self.items in
    let n = widest seats in
    let split : os ≡ o ∷ rest = c.in-Some.ensures.some in
    let lines : all_lines os ≡ all_lines (o ∷ rest) = ap all_lines split in
    let spare : all_spare os ≡ all_spare (o ∷ rest) = ap all_spare split in
    let long : length os ≡ length (o ∷ rest) = ap length split in
    let grown = c.add.ensures.grows in
    let used = c.add.ensures.uses in
    let settled = c.settle.ensures.used in
    let room : HasRoom a (all_lines (o ∷ rest)) (length (o ∷ rest)) (length (o ∷ rest)) (length (o ∷ rest) * n) =
    subst (λ l. HasRoom a (all_lines l) (length l) (length l) (length l * n)) split i.room in
    let more : IsAnswering (view x) ⊎ HasHeldRoom a (o ∷ rest) n = subst (λ l. IsAnswering (view x) ⊎ HasHeldRoom a l n) split i.more in
    let same : IsAnswering (view x) → z ≡ x =
    resolver_same view g.R.Resolve.holds seats station a b d o x z i.idle grown c.settle.ensures.settled in
    let rooms = rooms_left (view x) seats station a b o i.book c.add.ensures.book i.idle grown used d settled c.settle.ensures.idle rest
    (IsAnswering (view z)) (λ known. subst (λ r. IsAnswering (view r)) (sym (same known)) known) room more in
    let few : vec_len d.lines ≤ vec_len a.lines + lines_for o + 2 =
    few_left (view x) seats station a b o i.book c.add.ensures.book i.idle grown used d settled c.settle.ensures.idle rest in
    record {
      book = c.settle.ensures.book;
      idle = c.settle.ensures.idle;
      room = rooms.0;
      more = rooms.1;
      so_far =
          next_so_far view g.R.Resolve.holds seats station c.args.log.now a b d c.args.outputs.now.items os rest o c.args.resolver.now x z
          split i.so_far i.book i.idle grown c.add.ensures.stored c.settle.ensures.settled;
      few = omega (arith, i.few, lines, long, few);
      known = λ first.
          let before = i.known first in
          let now : IsAnswering (view x) = subst (λ r. IsAnswering (view r)) (sym before.0) first in
          let none = none_where_known (view x) seats station a b o i.book c.add.ensures.book i.idle grown used now in
          let still = ap (λ v. vec_len v) (settled.none none).lines in
          (same now ∙ before.0, omega (arith, before.1, lines, used.lines, still));
      named = omega (arith, i.named, spare, c.add.ensures.named, settled.named);
      steady = omega (arith, i.steady, used.steady, settled.steady);
      unchanged = λ none. absurd (not_both os (i.unchanged none).1 split);
    }
  where
    not_both : {X : Type 0} {x : X} {xs : List X} (l : List X) → l ≡ [] → l ≡ x ∷ xs → ⊥
    not_both l e f = cc

pub returns-clause-out : goal.returns-clause-out
returns-clause-out g c =
    last_so_far (λ r. record { finds = g.R.Resolve.finds r; lists = g.R.Resolve.lists r }) g.R.Resolve.holds c.args.seats.now
    c.args.station c.args.log.now c.loop-output.log c.args.outputs.now.items c.loop-output.outputs.items c.args.resolver.now
    c.loop-output.resolver c.in_default.ensures.none c.loop-output.invariant.so_far
