use Rattle.legal_stations.proofs.RouterTakes.{router_takes}
use Rattle.legal_stations.proofs.takes.routers_takes_are_legal.Goals as goal

pub returns : goal.returns
returns c = router_takes
