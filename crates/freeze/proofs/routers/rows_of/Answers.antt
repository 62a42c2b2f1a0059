use Rattle.std.proofs.Common.{◌++◌, ◌∙◌, ap, map, sym}
use Rattle.std.specs.Prelude.{option_to_list, slice_get}
use Rattle.freeze.proofs.Taken.{next_taken}
use Rattle.freeze.specs.Freezing.{frozen_row}
use Rattle.freeze.proofs.routers.rows_of.Goals as goal

pub loop-index-preserved : goal.loop-index-preserved
loop-index-preserved g c =
    let rows = g.T.RouteTable.rows c.args.routes.now in
    c.in_ok-put_row.ensures.put
    ∙ ap (λ xs. xs ++ map frozen_row (option_to_list (slice_get rows c.loop-index.index))) c.loop-index.invariant
    ∙ sym (next_taken frozen_row rows c.loop-index.index)
