use Rattle.std.proofs.Common.{IsTrue, subst, sym}
use Rattle.planned_stations.proofs.Beginnings.{all_free}
use Rattle.planned_stations.specs.Beginning.{are_free}
use Rattle.planned_stations.proofs.plans.zones_of.Goals as goal

pub put_all_zones-requires-clause-free : goal.put_all_zones-requires-clause-free
put_all_zones-requires-clause-free c =
    subst (λ t. IsTrue (are_free c.args.cables.now t c.as_slice.result.now)) (sym c.in_ok-zones.ensures.ok)
    (all_free c.args.cables.now c.as_slice.result.now)
