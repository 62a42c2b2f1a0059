use Rattle.legal_runs.proofs.laws.lookups.Goals as goal
use Rattle.legal_runs.proofs.LookedUp.{are_looked_up}

pub returns : goal.returns
returns c = are_looked_up
