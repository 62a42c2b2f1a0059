use Rattle.station.proofs.MadeLawful.{made_lawful}
use Rattle.end_node.proofs.node.EndNode.answer.Goals as goal

pub returns-clause-lawful : goal.returns-clause-lawful
returns-clause-lawful c =
    let made = c.in_ok-made.ensures {u = tt} in
    made_lawful 1 c.in_ok-made.made.items made.good made.few
