use Rattle.route_laws.proofs.Runs.{carried}
use Rattle.route_laws.proofs.laws.carried.Goals as goal

pub returns : goal.returns
returns c = carried
