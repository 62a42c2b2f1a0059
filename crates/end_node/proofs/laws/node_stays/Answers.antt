use Rattle.end_node.proofs.Stays.{node_stays}
use Rattle.end_node.proofs.laws.node_stays.Goals as goal

pub returns : goal.returns
returns c = node_stays
