use Rattle.std.proofs.Common.{length}
use Rattle.image_cables.proofs.mappers.+learn_each.Given as goal

abbrev pub decreases-learn_each : goal.decreases-learn_each
decreases-learn_each l = length l.mappings.now
