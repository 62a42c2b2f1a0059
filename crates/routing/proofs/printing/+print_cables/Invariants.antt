use Rattle.std.proofs.Common.{length}
use Rattle.routing.proofs.printing.+print_cables.Given as goal

abbrev pub decreases-print_cables : goal.decreases-print_cables
decreases-print_cables g l = length l.cables.now
