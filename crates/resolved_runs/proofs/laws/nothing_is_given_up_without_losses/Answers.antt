use Rattle.resolved_runs.proofs.laws.nothing_is_given_up_without_losses.Goals as goal
use Rattle.resolved_runs.proofs.NotLost.{nothing_given_up}

pub returns : goal.returns
returns c i t none = nothing_given_up i t none
