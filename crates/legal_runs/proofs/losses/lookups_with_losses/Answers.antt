use Rattle.legal_runs.proofs.losses.lookups_with_losses.Goals as goal
use Rattle.legal_runs.proofs.LossyLaws.{looked_up_with_losses}

pub returns : goal.returns
returns c = λ i t k ok legal only. looked_up_with_losses i t ok legal k only
