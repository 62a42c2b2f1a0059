use Rattle.audit.proofs.laws.mappings_are_true.Goals as goal
use Rattle.audit.proofs.MappingsTrue.{mappings_true}

pub returns : goal.returns
returns c = mappings_true
