use Rattle.std.proofs.Common.{length}
use Rattle.cable_model.proofs.putting.+add_those.Given as goal

abbrev pub decreases-add_those : goal.decreases-add_those
decreases-add_those l = length l.indices.now
