use Rattle.audit.proofs.laws.seats_are_unique.Goals as goal
use Rattle.audit.proofs.SeatUnique.{unique}

pub returns : goal.returns
returns c = unique
