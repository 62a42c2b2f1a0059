use Rattle.std.proofs.Common.{length}
use Rattle.file_router.proofs.calls.+call_of.Given as goal

abbrev pub decreases-call_of : goal.decreases-call_of
decreases-call_of l = length l.names.now
