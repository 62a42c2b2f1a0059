use Rattle.settled.proofs.Moments.{exchanged}
use Rattle.settled.proofs.laws.routing_data_keep_distances.Goals as goal

pub returns : goal.returns
returns c = λ i now past ok settled bounded moments. exchanged i ok settled bounded now past moments
