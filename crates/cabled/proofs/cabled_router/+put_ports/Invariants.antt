use Rattle.std.proofs.Common.{length}
use Rattle.cabled.proofs.cabled_router.+put_ports.Given as goal

abbrev pub decreases-put_ports : goal.decreases-put_ports
decreases-put_ports l = length l.plans.now
