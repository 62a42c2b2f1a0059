use Rattle.std.proofs.Common.{length}
use Rattle.routing.proofs.printing.+print_puts.Given as goal

abbrev pub decreases-print_puts : goal.decreases-print_puts
decreases-print_puts g l = length l.puts.now
