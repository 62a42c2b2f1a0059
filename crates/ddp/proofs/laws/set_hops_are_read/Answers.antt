use Rattle.ddp.proofs.Agreement.{read_with_hops}
use Rattle.ddp.proofs.laws.set_hops_are_read.Goals as goal

pub returns : goal.returns
returns c = read_with_hops
