use Rattle.std.proofs.Common.{arith}
use Rattle.table_image.proofs.CheckedParts.{all_true}
use Rattle.table_image.proofs.zones.check_zones.Goals as goal

pub check_counted-requires : goal.check_counted-requires
check_counted-requires c = (omega arith, (all_true c.args.names.now, (omega (arith, c.requires.few, c.zone_limit.ensures.value), omega (arith, c.requires.room))))
