use Rattle.audit.proofs.laws.distances_fit.Goals as goal
use Rattle.audit.proofs.WalkSteps.{near}

pub returns : goal.returns
returns c = λ i r n home ok within listed. near i ok r n home within listed
