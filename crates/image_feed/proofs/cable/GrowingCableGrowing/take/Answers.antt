use Rattle.std.proofs.Common.{None, refl}
use Rattle.image_feed.proofs.Anew.{cable_new}
use Rattle.image_feed.proofs.cable.GrowingCableGrowing.take.Goals as goal

pub returns-clause-anew : goal.returns-clause-anew
returns-clause-anew c = λ context like bytes.
    (let took = c.in_ok-zones.ensures {u = tt} in cable_new context.version like (record { head = None; names = c.take.new.self }) bytes refl took.left took.front)
