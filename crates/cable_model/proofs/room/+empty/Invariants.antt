use Rattle.std.proofs.Common.{length}
use Rattle.cable_model.proofs.room.+empty.Given as goal

abbrev pub decreases-empty : goal.decreases-empty
decreases-empty l = length l.outputs.now.items
