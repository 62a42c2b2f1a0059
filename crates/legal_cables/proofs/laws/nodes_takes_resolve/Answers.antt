use Rattle.legal_cables.proofs.Stations.{node_takes}
use Rattle.legal_cables.proofs.laws.nodes_takes_resolve.Goals as goal

pub returns : goal.returns
returns c = λ i old new stamp station ports k h g ok bounded fit legal kept far.
    node_takes i ok bounded fit old new stamp station ports legal kept k far h g
