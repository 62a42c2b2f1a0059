use Rattle.std.proofs.Common.{◌∙◌, ap, arith, sym}
use Rattle.image_stations.proofs.Housed.{nobody_there, station_there}
use Rattle.table_image.specs.Directory.{directory}
use Rattle.image_stations.proofs.whereabouts.Whereabouts.find_on.Goals as goal

pub returns-in-Some : goal.returns-in-Some
returns-in-Some c =
    station_there c.args.self.now c.args.cable c.args.addr c.self.inside.directory c.in-Some.place (omega arith)
    (c.self.invariant ∙ ap directory c.self.view_is) (sym c.find.ensures ∙ c.in-Some.is)

pub returns-in-None : goal.returns-in-None
returns-in-None c =
    nobody_there c.args.self.now c.args.cable c.args.addr c.self.inside.directory (omega arith)
    (c.self.invariant ∙ ap directory c.self.view_is) (sym c.find.ensures ∙ c.in-None.is)
