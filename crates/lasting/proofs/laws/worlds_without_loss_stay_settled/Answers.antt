use Rattle.lasting.proofs.Versioned.{stays_in_version}
use Rattle.lasting.proofs.laws.worlds_without_loss_stay_settled.Goals as goal

pub returns : goal.returns
returns c = λ version w vs run settled others lossless ticks. stays_in_version version w vs run settled others lossless ticks
