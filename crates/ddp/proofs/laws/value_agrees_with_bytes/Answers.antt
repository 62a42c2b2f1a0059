use Rattle.ddp.proofs.Agreement.{value_agrees}
use Rattle.ddp.proofs.laws.value_agrees_with_bytes.Goals as goal

pub returns : goal.returns
returns c = value_agrees
