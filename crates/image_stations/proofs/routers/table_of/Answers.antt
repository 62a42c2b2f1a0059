use Rattle.image_stations.proofs.Routes.{near}
use Rattle.image_stations.proofs.routers.table_of.Goals as goal

pub load-requires : goal.load-requires
load-requires g c = record { near = near c.args.rows.now c.requires.each }
