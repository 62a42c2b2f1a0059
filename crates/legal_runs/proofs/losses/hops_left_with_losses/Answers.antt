use Rattle.legal_runs.proofs.losses.hops_left_with_losses.Goals as goal
use Rattle.legal_runs.proofs.LossyLaws.{hops_with_losses}

pub returns : goal.returns
returns c = hops_with_losses
