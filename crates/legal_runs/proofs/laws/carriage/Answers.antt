use Rattle.legal_runs.proofs.laws.carriage.Goals as goal
use Rattle.legal_runs.proofs.Carried.{are_carried}
use Rattle.legal_runs.proofs.Handing.{are_by_hand}
use Rattle.legal_runs.proofs.Takers.{are_taken_there}

pub returns : goal.returns
returns c = record { carried = are_carried; taken = are_taken_there; handed = λ i t ok. are_by_hand i ok t }
