use Rattle.rtmp.proofs.Maps.{rows_apart}
use Rattle.rtmp.proofs.indexed.is_new.Goals as goal

pub overlaps_any-requires : goal.overlaps_any-requires
overlaps_any-requires c = record { map = rows_apart c.args.rows.now c.requires }
