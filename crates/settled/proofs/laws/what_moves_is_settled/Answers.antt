use Rattle.settled.proofs.Stays.{still_settled}
use Rattle.settled.proofs.laws.what_moves_is_settled.Goals as goal

pub returns : goal.returns
returns c = λ before after ok settled moved. still_settled before after ok settled moved
