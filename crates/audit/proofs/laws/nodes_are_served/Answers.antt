use Rattle.audit.proofs.laws.nodes_are_served.Goals as goal
use Rattle.audit.proofs.NodesServed.{nodes_served}

pub returns : goal.returns
returns c = λ i k node ok at. nodes_served i k node ok at
