use Rattle.audit.proofs.laws.seats_are_addressed.Goals as goal
use Rattle.audit.proofs.SeatUnique.{addressed}

pub returns : goal.returns
returns c = λ i k s ok at. addressed i ok k s at
