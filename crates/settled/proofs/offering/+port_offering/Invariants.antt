use Rattle.std.proofs.Common.{length}
use Rattle.settled.proofs.offering.+port_offering.Given as goal

abbrev pub decreases-port_offering : goal.decreases-port_offering
decreases-port_offering l = length l.ports.now
