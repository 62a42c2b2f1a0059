use Rattle.lasting.proofs.Routers.{ticks}
use Rattle.lasting.proofs.laws.a_tick_ages_and_tells.Goals as goal

pub returns : goal.returns
returns c = λ l new added settled h. ticks l new added settled h
