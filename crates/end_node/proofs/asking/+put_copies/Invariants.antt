use Rattle.std.proofs.Common.{length}
use Rattle.end_node.proofs.asking.+put_copies.Given as goal

abbrev pub decreases-put_copies : goal.decreases-put_copies
decreases-put_copies l = length l.datagrams.now
