use Rattle.legal_runs.proofs.laws.each_end_is_legal.Goals as goal
use Rattle.legal_runs.proofs.Ends.{everybody_is_legal, nobody_is_legal, nowhere_is_legal}

pub returns : goal.returns
returns c = record { nobody = nobody_is_legal; everybody = everybody_is_legal; nowhere = nowhere_is_legal }
