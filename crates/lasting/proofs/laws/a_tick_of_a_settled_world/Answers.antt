use Rattle.lasting.proofs.Run.{tick_stays}
use Rattle.lasting.proofs.laws.a_tick_of_a_settled_world.Goals as goal

pub returns : goal.returns
returns c = λ old new run settled others tick. tick_stays old new run settled others tick
