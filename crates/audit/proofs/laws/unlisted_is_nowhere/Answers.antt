use Rattle.audit.proofs.laws.unlisted_is_nowhere.Goals as goal
use Rattle.audit.proofs.WalkSteps.{nowhere}

pub returns : goal.returns
returns c = λ i r n ok within unlisted. nowhere i ok r n within unlisted
