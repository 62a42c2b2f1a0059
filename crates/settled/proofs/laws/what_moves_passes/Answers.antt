use Rattle.settled.proofs.Moved.{still_passes}
use Rattle.settled.proofs.laws.what_moves_passes.Goals as goal

pub returns : goal.returns
returns c = λ before after ok moved. still_passes before after ok moved
