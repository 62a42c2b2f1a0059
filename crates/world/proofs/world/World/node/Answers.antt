use Rattle.std.proofs.Common.{subst}
use Rattle.world.proofs.Stations.{laid_lives}
use Rattle.world.specs.Worlds.{IsWorld}
use Rattle.world.proofs.world.World.node.Goals as goal

pub returns-then-number-eq0-clause-lived : goal.returns-then-number-eq0-clause-lived
returns-then-number-eq0-clause-lived g c = subst IsWorld c.self.view_is (laid_lives _ c.self.invariant)

pub returns-clause-lived : goal.returns-clause-lived
returns-clause-lived g c = subst IsWorld c.self.view_is (laid_lives _ c.self.invariant)
