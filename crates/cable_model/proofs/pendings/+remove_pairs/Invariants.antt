use Rattle.std.proofs.Common.{length}
use Rattle.cable_model.proofs.pendings.+remove_pairs.Given as goal

abbrev pub decreases-remove_pairs : goal.decreases-remove_pairs
decreases-remove_pairs l = length l.items.now.items
