use Rattle.legal_runs.proofs.losses.carriage_with_losses.Goals as goal
use Rattle.legal_runs.proofs.LossyLaws.{carried_with_losses, handed_with_losses, taken_with_losses}

pub returns : goal.returns
returns c = record { carried = carried_with_losses; taken = taken_with_losses; handed = handed_with_losses }
