use Rattle.std.proofs.Common.{length}
use Rattle.tables_text.proofs.printing.+print_each.Given as goal

abbrev pub decreases-print_each : goal.decreases-print_each
decreases-print_each g l = length l.items.now
