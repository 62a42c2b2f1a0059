use Rattle.resolved_runs.proofs.laws.plain_legs_have_plain_fates.Goals as goal
use Rattle.resolved_runs.proofs.Fates.{same_fate}

pub returns : goal.returns
returns c = same_fate
