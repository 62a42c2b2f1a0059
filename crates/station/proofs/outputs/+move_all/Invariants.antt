use Rattle.std.proofs.Common.{length}
use Rattle.station.proofs.outputs.+move_all.Given as goal

abbrev pub decreases-move_all : goal.decreases-move_all
decreases-move_all l = length l.others.now.items
