use Rattle.std.proofs.Common.{subst}
use Rattle.world.proofs.Stations.{laid_lives}
use Rattle.world.specs.Worlds.{IsWorld}
use Rattle.world.proofs.world.World.transcript.Goals as goal

pub returns-clause-lived : goal.returns-clause-lived
returns-clause-lived g c = subst IsWorld c.self.view_is (laid_lives _ c.self.invariant)
