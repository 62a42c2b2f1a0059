use Rattle.at_base.specs.Limits.{max_zones}
use Rattle.audit.proofs.Filter.{no_mark}
use Rattle.audit.proofs.zone_sets.Found.none.Goals as goal

pub returns : goal.returns
returns c k = no_mark max_zones k
