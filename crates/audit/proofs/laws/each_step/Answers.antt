use Rattle.audit.proofs.laws.each_step.Goals as goal
use Rattle.audit.proofs.WalkSteps.{steps}

pub returns : goal.returns
returns c = λ i r n home ok within listed. steps i ok r n home within listed
