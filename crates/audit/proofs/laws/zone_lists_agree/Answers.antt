use Rattle.audit.proofs.laws.zone_lists_agree.Goals as goal
use Rattle.audit.proofs.ZonesAgree.{zones_agree}

pub returns : goal.returns
returns c = zones_agree
