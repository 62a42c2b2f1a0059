use Rattle.std.proofs.Common.{length}
use Rattle.end_node.proofs.lookups.+put_replies.Given as goal

abbrev pub decreases-put_replies : goal.decreases-put_replies
decreases-put_replies l = length l.tuples.now
