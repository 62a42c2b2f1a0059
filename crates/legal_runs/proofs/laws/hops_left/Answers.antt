use Rattle.legal_runs.proofs.laws.hops_left.Goals as goal
use Rattle.legal_runs.proofs.Conserved.{hops_are_left}

pub returns : goal.returns
returns c = hops_are_left
