use Rattle.std.proofs.Common.{◌≡◌, true, Some, slice_get, below_more, length, ap, sym, ◌∙◌, arith}
use Rattle.table_image.specs.declared.row.Row.{Row}
use Rattle.audit.specs.Straight.{is_straight}
use Rattle.audit.proofs.Firsts.{passes_at, end_of}
use Rattle.audit.proofs.WalkLists.{at_within}
use Rattle.audit.proofs.straight.has_straight_rows.Goals as goal

pub loop-k-preserved : goal.loop-k-preserved
loop-k-preserved c =
    let i = c.args.image.now in
    let router = c.args.router.now in
    let same = c.as_slice-rows.ensures in
    let good = sym c.is_straight.ensures.straight ∙ c.if-not-is_straight.false in (
      below_more (λ j. (row : Row) → slice_get router.rows j ≡ Some row → is_straight i router j row ≡ true) _ c.loop-k.invariant.0 (λ row here.
          passes_at (is_straight i router c.loop-k.k) _ c.loop-k.k _ c.loop-k-test.true good row (ap (λ rows. slice_get rows c.loop-k.k) same ∙ here)),
      c.is_straight.ensures.last,
    )

pub returns : goal.returns
returns c = λ _.
    let router = c.args.router.now in
    let same = c.as_slice-rows.ensures in
    let past = end_of router.rows _ c.loop-k.k same c.loop-k-test.false in (
      sym (ap length same) ∙ (c.if-rows-cables.false ∙ ap length c.cables.ensures.value),
      λ k row at. let within = at_within router.rows k row at in c.loop-k.invariant.0 k (omega (arith, within, past)) row at,
    )
