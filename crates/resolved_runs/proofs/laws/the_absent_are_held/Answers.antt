use Rattle.std.proofs.Common.{refl}
use Rattle.resolved_runs.proofs.laws.the_absent_are_held.Goals as goal
use Rattle.resolved_runs.proofs.Nobody.{nobody_12}

pub returns : goal.returns
returns c = record { legal = nobody_12; entries = refl; reached = refl; held = refl; quiet = refl }
