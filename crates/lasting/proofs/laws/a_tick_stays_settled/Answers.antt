use Rattle.lasting.proofs.Rested.{at_rest}
use Rattle.lasting.proofs.Ticking.{stays}
use Rattle.lasting.proofs.laws.a_tick_stays_settled.Goals as goal

pub returns : goal.returns
returns c = λ old new phase rest others tick same. stays old new phase (at_rest phase old rest) others tick ⊥ (λ no. absurd no) same
