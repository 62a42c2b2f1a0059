use Rattle.lasting.proofs.Between.{between}
use Rattle.lasting.proofs.laws.ticks_between_ageings_stay_settled.Goals as goal

pub returns : goal.returns
returns c = λ w phase vs rest others ticks few. between w phase vs rest others ticks few
