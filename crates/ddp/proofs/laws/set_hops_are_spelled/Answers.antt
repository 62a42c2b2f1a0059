use Rattle.ddp.proofs.Agreement.{spells_with_hops}
use Rattle.ddp.proofs.laws.set_hops_are_spelled.Goals as goal

pub returns : goal.returns
returns c = spells_with_hops
