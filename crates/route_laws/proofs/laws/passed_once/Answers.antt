use Rattle.route_laws.proofs.Passing.{passed_once}
use Rattle.route_laws.proofs.laws.passed_once.Goals as goal

pub returns : goal.returns
returns c = passed_once
