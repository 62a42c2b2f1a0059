use Rattle.std.proofs.Common.{◌≡◌, ℕ, ◌<◌, ◌≤◌, ◌+◌, ◌-◌, ◌/◌, ◌∙◌, ap, arith, sym, slice_index_or, true, false}
use Rattle.cable_model.proofs.Looking.{ahead_over, ahead_under}
use Rattle.cable_model.specs.Order.{ahead, is_before}
use Rattle.cable_model.specs.Waits.{due_key}
use Rattle.cable_model.proofs.pendings.+place_between.Goals as goal

pub place_between-requires : goal.place_between-requires
place_between-requires t c =
    let items = c.args.items.now.items in
    let k : ℕ × ℕ = (c.args.stamp, c.args.station) in
    let middle = c.args.low + (c.args.high - c.args.low) / 2 in
    let d = c.index.result.now in
    let passes : is_before (due_key (slice_index_or items middle d)) k ≡ true =
    ap (λ d. is_before (due_key d) k) (sym c.index.ensures) ∙ (sym c.comes_before.ensures ∙ c.if-comes_before.true) in
    let over : middle < ahead due_key k items =
    ahead_over due_key k items middle d c.requires.rising (omega (arith, c.if-low-high.false, c.requires.inside)) passes in
    (omega (arith, c.if-low-high.false, c.decreases), (c.requires.rising, (omega (arith, over), (c.requires.to, c.requires.inside))))

pub place_between-requires-else-comes_before : goal.place_between-requires-else-comes_before
place_between-requires-else-comes_before t c =
    let items = c.args.items.now.items in
    let k : ℕ × ℕ = (c.args.stamp, c.args.station) in
    let middle = c.args.low + (c.args.high - c.args.low) / 2 in
    let d = c.index.result.now in
    let fails : is_before (due_key (slice_index_or items middle d)) k ≡ false =
    ap (λ d. is_before (due_key d) k) (sym c.index.ensures) ∙ (sym c.comes_before.ensures ∙ c.if-comes_before.false) in
    let under : ahead due_key k items ≤ middle =
    ahead_under due_key k items middle d (omega (arith, c.if-low-high.false, c.requires.inside)) fails in (
      omega (arith, c.if-low-high.false, c.decreases),
      (
        c.requires.rising,
        (c.requires.from, (omega (arith, under), omega (arith, c.if-low-high.false, c.requires.inside))),
      ),
    )
