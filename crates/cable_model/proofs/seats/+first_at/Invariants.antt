use Rattle.std.proofs.Common.{length}
use Rattle.cable_model.proofs.seats.+first_at.Given as goal

abbrev pub decreases-first_at : goal.decreases-first_at
decreases-first_at l = length l.list.now
