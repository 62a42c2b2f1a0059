use Rattle.legal_stations.proofs.Expanding.{broadcast_expands}
use Rattle.legal_stations.proofs.requests.broadcast_requests_expand.Goals as goal

pub returns : goal.returns
returns c = broadcast_expands
