use Rattle.std.proofs.Common.{length}
use Rattle.live_router.proofs.sent.+put_all_data.Given as goal

abbrev pub decreases-put_all_data : goal.decreases-put_all_data
decreases-put_all_data g l = length l.ports.now
