use Rattle.route_laws.proofs.Runs.{kept_of}
use Rattle.route_laws.proofs.laws.kept.Goals as goal

pub returns : goal.returns
returns c = kept_of
