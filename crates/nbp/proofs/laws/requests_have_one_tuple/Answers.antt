use Rattle.nbp.proofs.Shape.{one_tuple}
use Rattle.nbp.proofs.laws.requests_have_one_tuple.Goals as goal

pub returns : goal.returns
returns c = one_tuple
