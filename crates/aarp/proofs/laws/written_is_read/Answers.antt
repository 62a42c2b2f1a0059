use Rattle.aarp.proofs.Written.{read_back}
use Rattle.aarp.proofs.laws.written_is_read.Goals as goal

pub returns : goal.returns
returns c = read_back
