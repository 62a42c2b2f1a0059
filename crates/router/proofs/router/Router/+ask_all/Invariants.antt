use Rattle.std.proofs.Common.{length}
use Rattle.router.proofs.router.Router.+ask_all.Given as goal

abbrev pub decreases-ask_all : goal.decreases-ask_all
decreases-ask_all g l = length l.asks.now
