use Rattle.std.proofs.Common.{◌≡◌, ℕ, ◌<◌, ◌≤◌, ◌-◌, ◌∙◌, ap, arith, sym, length, slice_index_or, true, false}
use Rattle.cable_model.proofs.Looking.{ahead_fits, ahead_over, ahead_under}
use Rattle.cable_model.specs.Order.{ahead, is_before}
use Rattle.cable_model.specs.Waits.{due_key}
use Rattle.cable_model.proofs.pendings.place_of.Goals as goal

-- The last pair comes before, so all do.
pub returns-then-comes_before-clause-place : goal.returns-then-comes_before-clause-place
returns-then-comes_before-clause-place c =
    let items = c.args.items.now.items in
    let k : ℕ × ℕ = (c.args.stamp, c.args.station) in
    let last = c.len-len.result - 1 in
    let d = c.index-2.result.now in
    let passes : is_before (due_key (slice_index_or items last d)) k ≡ true =
    ap (λ d. is_before (due_key d) k) (sym c.index-2.ensures) ∙ (sym c.comes_before-2.ensures ∙ c.if-comes_before.true) in
    let inside : last < length items = omega (arith, c.len-len.ensures, c.if-len-eq0.false) in
    let over : last < ahead due_key k items = ahead_over due_key k items last d c.requires inside passes in
    let fits : ahead due_key k items ≤ length items = ahead_fits due_key k items in
    omega (arith, over, fits, c.len-len.ensures, c.if-len-eq0.false)

-- The last pair doesn't come before, so the place is at most there.
pub place_between-requires-clause-to : goal.place_between-requires-clause-to
place_between-requires-clause-to c =
    let items = c.args.items.now.items in
    let k : ℕ × ℕ = (c.args.stamp, c.args.station) in
    let last = c.len-len.result - 1 in
    let d = c.index-2.result.now in
    let fails : is_before (due_key (slice_index_or items last d)) k ≡ false =
    ap (λ d. is_before (due_key d) k) (sym c.index-2.ensures) ∙ (sym c.comes_before-2.ensures ∙ c.if-comes_before.false) in
    let inside : last < length items = omega (arith, c.len-len.ensures, c.if-len-eq0.false) in
    ahead_under due_key k items last d inside fails

pub returns-clause-inside : goal.returns-clause-inside
returns-clause-inside c =
    let fits = ahead_fits due_key (c.args.stamp, c.args.station) c.args.items.now.items in
    omega (arith, fits, c.place_between.ensures)
