use Rattle.std.proofs.Common.{length}
use Rattle.router.proofs.router.+put_choosers.Given as goal

abbrev pub decreases-put_choosers : goal.decreases-put_choosers
decreases-put_choosers l = length l.plans.now
