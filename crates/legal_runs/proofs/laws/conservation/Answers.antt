use Rattle.legal_runs.proofs.laws.conservation.Goals as goal
use Rattle.legal_runs.proofs.Conserved.{conserved}

pub returns : goal.returns
returns c = conserved
