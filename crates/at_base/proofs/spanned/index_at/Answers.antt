use Rattle.std.proofs.Common.{◌≡◌, ℕ, suc, ◌-◌, ◌≤◌, arith, nat_le, Some, true, false, slice_get, refl, sym, ◌∙◌}
use Rattle.std.proofs.lemmas.Bool.{lt-leb}
use Rattle.std.proofs.lemmas.Bool.Decides.{nat_tests}
use Rattle.std.proofs.lemmas.Option.{slice_get_read}
use Rattle.at_base.specs.Spans.{before}
use Rattle.at_base.proofs.Spans.{before_all, last_before}
use Rattle.at_base.proofs.spanned.index_at.Goals as goal

pub returns-then-place-eq0-clause-none : goal.returns-then-place-eq0-clause-none
returns-then-place-eq0-clause-none g c =
    before_all g.T.Spanned.span c.args.net 0 c.args.items.now c.requires
    (sym c.place_past-place.ensures.place ∙ c.if-place-eq0.true)

pub returns-then-end-net-clause-none : goal.returns-then-end-net-clause-none
returns-then-end-net-clause-none g c =
    let span = g.T.Spanned.span in
    let place = c.place_past-place.result in
    let last : before span (suc c.args.net) c.args.items.now ≡ suc (place - 1) =
    omega (arith, c.place_past-place.ensures.place, c.if-place-eq0.false) in
    let held = last_before span c.args.net 0 (place - 1) c.args.items.now c.index-items-index.result c.requires last
    c.index-items-index.is in
    let out : nat_le c.args.net (span c.index-items-index.result).end ≡ false =
    lt-leb _ _ (rw (c.end.ensures.value, c.range.ensures) at c.if-end-net.true) in
    rw out at held

pub returns-clause-found : goal.returns-clause-found
returns-clause-found g c =
    let span = g.T.Spanned.span in
    let place = c.place_past-place.result in
    let last : before span (suc c.args.net) c.args.items.now ≡ suc (place - 1) =
    omega (arith, c.place_past-place.ensures.place, c.if-place-eq0.false) in
    let held = last_before span c.args.net 0 (place - 1) c.args.items.now c.index-items-index.result c.requires last
    c.index-items-index.is in
    let in_it : nat_le c.args.net (span c.index-items-index.result).end ≡ true =
    within _ _ (rw (c.end.ensures.value, c.range.ensures) at c.if-end-net.false) in
    let read : slice_get c.args.items.now (place - 1) ≡ Some c.index-items-index.result =
    slice_get_read c.args.items.now _ (place - 1) c.index-items-index.result refl
    (omega (arith, c.place_past-place.ensures.inside, c.if-place-eq0.false)) c.index-items-index.is in
    read ∙ sym (rw in_it at held)
  where
    within : (m n : ℕ) → m ≤ n → nat_le m n ≡ true
    within m n le = grind (arith, nat_tests)
