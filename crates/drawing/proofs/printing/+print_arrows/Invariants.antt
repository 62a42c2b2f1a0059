use Rattle.std.proofs.Common.{length}
use Rattle.drawing.proofs.printing.+print_arrows.Given as goal

abbrev pub decreases-print_arrows : goal.decreases-print_arrows
decreases-print_arrows g l = length l.routers.now
