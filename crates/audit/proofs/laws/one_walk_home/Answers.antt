use Rattle.audit.proofs.laws.one_walk_home.Goals as goal
use Rattle.audit.proofs.WalkHome.{walks_home}

pub returns : goal.returns
returns c = walks_home
