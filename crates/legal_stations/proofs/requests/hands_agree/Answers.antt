use Rattle.legal_stations.proofs.Hands.{hands_agree}
use Rattle.legal_stations.proofs.requests.hands_agree.Goals as goal

pub returns : goal.returns
returns c = λ i r n h ok holds. hands_agree i ok r h holds n
