use Rattle.std.proofs.Common.{length}
use Rattle.zip_zones.proofs.replies.+put_groups.Given as goal

abbrev pub decreases-put_groups : goal.decreases-put_groups
decreases-put_groups l = length l.names.now
