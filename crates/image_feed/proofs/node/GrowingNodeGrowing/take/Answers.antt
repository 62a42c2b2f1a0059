use Rattle.std.proofs.Common.{None, refl}
use Rattle.image_feed.proofs.Anew.{node_new}
use Rattle.image_feed.proofs.node.GrowingNodeGrowing.take.Goals as goal

pub returns-clause-anew : goal.returns-clause-anew
returns-clause-anew c = λ context like bytes.
    node_new context.version context.cables (record { head = None; names = c.take.new.self; mappings = c.take-2.new.self }) bytes
    (record { head = refl; names = c.take.ensures.anew; mappings = c.take-2.ensures.anew })
