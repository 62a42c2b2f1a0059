use Rattle.std.proofs.Common.{length}
use Rattle.drawing.proofs.printing.+print_ports.Given as goal

abbrev pub decreases-print_ports : goal.decreases-print_ports
decreases-print_ports g l = length l.ports.now
