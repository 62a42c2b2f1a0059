use Rattle.legal_cables.proofs.Beginning.{begins}
use Rattle.legal_cables.proofs.laws.fresh_cables_keep.Goals as goal

pub returns : goal.returns
returns c = λ i w ok bounded. begins i ok bounded w
