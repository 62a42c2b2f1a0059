use Rattle.std.proofs.Common.{length}
use Rattle.settled.proofs.offering.+router_offering.Given as goal

abbrev pub decreases-router_offering : goal.decreases-router_offering
decreases-router_offering l = length l.routers.now
