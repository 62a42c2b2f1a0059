use Rattle.std.proofs.Common.{length}
use Rattle.file_router.proofs.calls.+put_calls.Given as goal

abbrev pub decreases-put_calls : goal.decreases-put_calls
decreases-put_calls l = length l.ports.now
