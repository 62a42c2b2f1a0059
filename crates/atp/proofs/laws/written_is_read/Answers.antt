use Rattle.atp.proofs.Shape.{read_back}
use Rattle.atp.proofs.laws.written_is_read.Goals as goal

pub returns : goal.returns
returns c = read_back
