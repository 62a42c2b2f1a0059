use Rattle.legal_cables.proofs.Stations.{node_sends}
use Rattle.legal_cables.proofs.laws.sendings_resolve.Goals as goal

pub returns : goal.returns
returns c = λ i old new l ok fit. node_sends i ok fit old new l
