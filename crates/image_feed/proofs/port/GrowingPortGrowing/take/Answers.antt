use Rattle.std.proofs.Common.{None, refl}
use Rattle.image_feed.proofs.Anew.{port_new}
use Rattle.image_feed.proofs.port.GrowingPortGrowing.take.Goals as goal

pub returns-clause-anew : goal.returns-clause-anew
returns-clause-anew c = λ context like bytes.
    port_new context.version context.cables (record { head = None; mappings = c.take.new.self }) bytes
    (record { head = refl; mappings = c.take.ensures.anew })
