use Rattle.std.proofs.Common.{length}
use Rattle.survey.proofs.known.+router_next.Given as goal

abbrev pub decreases-router_next : goal.decreases-router_next
decreases-router_next l = length l.routers.now
