use Rattle.legal_stations.proofs.NodeTakes.{node_takes}
use Rattle.legal_stations.proofs.takes.nodes_takes_are_legal.Goals as goal

pub returns : goal.returns
returns c = λ i t p k n old new added ok bounded. node_takes i t p k n old new added ok
