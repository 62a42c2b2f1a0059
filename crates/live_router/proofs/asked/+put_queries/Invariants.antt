use Rattle.std.proofs.Common.{length}
use Rattle.live_router.proofs.asked.+put_queries.Given as goal

abbrev pub decreases-put_queries : goal.decreases-put_queries
decreases-put_queries l = length l.queries.now
