use Rattle.legal_stations.proofs.LookedUp.{looked_up_there}
use Rattle.legal_stations.proofs.requests.forward_requests_are_looked_up.Goals as goal

pub returns : goal.returns
returns c = λ i r n c h d p ok bounded holder. looked_up_there i ok r h holder n c d p
