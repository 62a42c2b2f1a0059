use Rattle.std.proofs.Common.{length}
use Rattle.cable_model.proofs.pendings.+remove_stamp.Given as goal

abbrev pub decreases-remove_stamp : goal.decreases-remove_stamp
decreases-remove_stamp l = length l.items.now.items
