use Rattle.std.proofs.Common.{length}
use Rattle.tables_text.proofs.printing.+print_routers.Given as goal

abbrev pub decreases-print_routers : goal.decreases-print_routers
decreases-print_routers g l = length l.routers.now
