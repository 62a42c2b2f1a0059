use Rattle.ddp.proofs.Agreement.{no_hops}
use Rattle.ddp.proofs.laws.written_has_no_hops.Goals as goal

pub returns : goal.returns
returns c = no_hops
