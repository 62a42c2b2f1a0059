use Rattle.resolved_runs.proofs.laws.the_mapped_echo_is_legal.Goals as goal
use Rattle.resolved_runs.proofs.WithMappings.{mapped_16}

pub returns : goal.returns
returns c = mapped_16
