use Rattle.std.proofs.Common.{length}
use Rattle.file_router.proofs.beginning.+put_cables.Given as goal

abbrev pub decreases-put_cables : goal.decreases-put_cables
decreases-put_cables l = length l.ports.now
