use Rattle.settled.proofs.Asked.{nobody_asks}
use Rattle.settled.proofs.laws.nobody_asks_for_zones.Goals as goal

pub returns : goal.returns
returns c = λ i r router ok er. nobody_asks i ok r router er
