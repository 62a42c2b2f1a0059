use Rattle.std.proofs.Common.{arith}
use Rattle.live_node.proofs.Starting.{none_made}
use Rattle.live_node.proofs.live.LiveNode.made.Goals as goal

pub returns-clause-good : goal.returns-clause-good
returns-clause-good c =
    c.in_ok-put_repeats.ensures.good (c.in_ok-put_question.ensures.good
    (c.put_probe.ensures.good 1 (omega arith) (none_made c.new-made.result.items c.new-made.ensures.items)))
