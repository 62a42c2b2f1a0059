use Rattle.legal_runs.proofs.losses.legal_is_lossy.Goals as goal
use Rattle.legal_runs.proofs.LossyLaws.{legal_with_losses, no_loss, nothing_lost}

pub returns : goal.returns
returns c = record {
  legal = legal_with_losses;
  none = λ i t stamp legal. no_loss i t legal stamp;
  counts = λ i t b k d legal. nothing_lost i t legal b k d;
}
