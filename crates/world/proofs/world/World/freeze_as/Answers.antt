use Rattle.std.proofs.Common.{◌≡◌, map, subst, sym}
use Rattle.planned_stations.specs.Planning.{planned_ports, ports_of}
use Rattle.world.proofs.world.World.freeze_as.Goals as goal

pub image_of-requires-clause-ports : goal.image_of-requires-clause-ports
image_of-requires-clause-ports g c =
    subst (λ l. map ports_of l ≡ planned_ports c.self.inside.plan) (sym c.as_slice-stations.ensures.value) c.self.invariant.ports
