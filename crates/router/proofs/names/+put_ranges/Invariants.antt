use Rattle.std.proofs.Common.{length}
use Rattle.router.proofs.names.+put_ranges.Given as goal

abbrev pub decreases-put_ranges : goal.decreases-put_ranges
decreases-put_ranges l = length l.ports.now
