use Rattle.std.proofs.Common.{◌≡◌, sym, ◌∙◌, ap, Some, false, slice_get, below_more, arith, suc}
use Rattle.at_base.specs.declared.error.Place.TheVariants as place
use Rattle.audit.specs.Rules.{bad_cable, end_before, c1}
use Rattle.audit.proofs.Firsts.{item_at, end_of, on_some, on_past, none_at_all}
use Rattle.audit.proofs.CableOrder.{end_passed}
use Rattle.audit.proofs.cables.first_cable.Goals as goal

pub loop-k-preserved : goal.loop-k-preserved
loop-k-preserved c =
    let cables = c.args.image.now.cables in
    let here : slice_get cables c.loop-k.k ≡ Some c.cable-item.result =
    item_at cables _ c.loop-k.k _ c.cables-cable-items.ensures.value c.loop-k-test.true c.cable-item.is in
    let good = ap (λ before. bad_cable before c.cable-item.result) (sym c.loop-k.invariant.0)
    ∙ (sym c.is_bad.ensures ∙ c.if-is_bad.false) in (
      end_passed cables c.loop-k.k _ here,
      below_more _ _ c.loop-k.invariant.1 (on_some cables c.loop-k.k _ (bad_cable (end_before cables c.loop-k.k)) false here good),
    )

pub returns-clause-first : goal.returns-clause-first
returns-clause-first c =
    let cables = c.args.image.now.cables in
    let past = end_of cables _ c.loop-k.k c.cables-cable-items.ensures.value c.loop-k-test.false in
    none_at_all (λ k. c1 c.args.image.now (place.Cable (suc k))) c.loop-k.k
    (λ k ge. on_past cables k (bad_cable (end_before cables k)) (omega (arith, past))) c.loop-k.invariant.1
