use Rattle.lasting.proofs.Run.{stays_settled}
use Rattle.lasting.proofs.laws.settled_worlds_stay_settled.Goals as goal

pub returns : goal.returns
returns c = λ w vs run settled others lossless ticks. stays_settled w vs run settled others lossless ticks
