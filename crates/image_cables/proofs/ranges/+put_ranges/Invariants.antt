use Rattle.std.proofs.Common.{length}
use Rattle.image_cables.proofs.ranges.+put_ranges.Given as goal

abbrev pub decreases-put_ranges : goal.decreases-put_ranges
decreases-put_ranges l = length l.cables.now
