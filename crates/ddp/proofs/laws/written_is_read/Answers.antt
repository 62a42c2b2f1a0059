use Rattle.ddp.proofs.Agreement.{read_back}
use Rattle.ddp.proofs.laws.written_is_read.Goals as goal

pub returns : goal.returns
returns c = read_back
