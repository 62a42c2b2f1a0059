use Rattle.legal_stations.proofs.takes.sendings_are_legal.Goals as goal
use Rattle.legal_stations.proofs.Leaving.{sendings}

pub returns : goal.returns
returns c = sendings
