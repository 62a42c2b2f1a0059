use Rattle.legal_runs.proofs.losses.conservation_with_losses.Goals as goal
use Rattle.legal_runs.proofs.LossyLaws.{conserved_with_losses}

pub returns : goal.returns
returns c = conserved_with_losses
