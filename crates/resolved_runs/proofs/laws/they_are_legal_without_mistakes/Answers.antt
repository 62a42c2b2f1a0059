use Rattle.resolved_runs.proofs.laws.they_are_legal_without_mistakes.Goals as goal
use Rattle.resolved_runs.proofs.Mended.{asked_once, both_released, not_answered, reached_once}

pub returns : goal.returns
returns c = record { reached = reached_once; released = both_released; asked = asked_once; answered = not_answered }
