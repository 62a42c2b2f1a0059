use Rattle.legal_cables.proofs.Stations.{router_takes}
use Rattle.legal_cables.proofs.laws.routers_takes_resolve.Goals as goal

pub returns : goal.returns
returns c = λ i old new stamp station ports h g ok bounded fit legal kept.
    router_takes i ok bounded fit old new stamp station ports legal kept h g
