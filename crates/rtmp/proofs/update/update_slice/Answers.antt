use Rattle.std.proofs.lemmas.List.Edits.{map_over_more}
use Rattle.rtmp.specs.Updates.{updated}
use Rattle.rtmp.proofs.update.update_slice.Goals as goal

pub loop-row-preserved : goal.loop-row-preserved
loop-row-preserved c =
    rw (c.updated_row.ensures, ← c.row-item.is)
    (map_over_more (updated c.args.update.now) c.args.rows.now c.loop-row.rows c.loop-row.row-index c.row-item.result
    c.loop-row-test.true c.loop-row.invariant c.row-item.is)
