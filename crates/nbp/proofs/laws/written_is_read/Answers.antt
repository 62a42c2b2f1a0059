use Rattle.nbp.proofs.Shape.{read_back}
use Rattle.nbp.proofs.laws.written_is_read.Goals as goal

pub returns : goal.returns
returns c = read_back
