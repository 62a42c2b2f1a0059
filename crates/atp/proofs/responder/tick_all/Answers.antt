use Rattle.atp.specs.Responding.{older}
use Rattle.atp.proofs.Lists.{map_more}
use Rattle.atp.proofs.responder.tick_all.Goals as goal

pub loop-request-preserved : goal.loop-request-preserved
loop-request-preserved c =
    map_more older c.args.requests.now c.loop-request.requests c.loop-request.request-index c.tick.new.self c.request-item.result
    c.loop-request-test.true c.loop-request.invariant c.tick.ensures
