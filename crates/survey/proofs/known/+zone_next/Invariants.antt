use Rattle.std.proofs.Common.{length}
use Rattle.survey.proofs.known.+zone_next.Given as goal

abbrev pub decreases-zone_next : goal.decreases-zone_next
decreases-zone_next l = length l.zones.now
