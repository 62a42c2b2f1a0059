use Rattle.nbp.proofs.Shape.{same_key}
use Rattle.nbp.proofs.laws.functions_leave_the_key.Goals as goal

pub returns : goal.returns
returns c = same_key
