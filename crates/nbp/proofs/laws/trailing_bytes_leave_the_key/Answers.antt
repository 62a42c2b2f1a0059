use Rattle.nbp.proofs.Shape.{key_alone}
use Rattle.nbp.proofs.laws.trailing_bytes_leave_the_key.Goals as goal

pub returns : goal.returns
returns c = key_alone
