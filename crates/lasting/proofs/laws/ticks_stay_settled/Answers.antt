use Rattle.lasting.proofs.Always.{always}
use Rattle.lasting.proofs.laws.ticks_stay_settled.Goals as goal

pub returns : goal.returns
returns c = λ w phase vs rest others lossless ticks numbered. always w phase vs rest others lossless ticks numbered
