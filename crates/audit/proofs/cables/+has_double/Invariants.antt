use Rattle.std.proofs.Common.{length}
use Rattle.audit.proofs.cables.+has_double.Given as goal

abbrev pub decreases-has_double : goal.decreases-has_double
decreases-has_double l = length l.zones.now
