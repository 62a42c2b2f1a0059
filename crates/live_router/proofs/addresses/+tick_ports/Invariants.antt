use Rattle.std.proofs.Common.{length}
use Rattle.live_router.proofs.addresses.+tick_ports.Given as goal

abbrev pub decreases-tick_ports : goal.decreases-tick_ports
decreases-tick_ports l = length l.ports.now
