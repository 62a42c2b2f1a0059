use Rattle.std.proofs.lemmas.List.Edits.{map_over_more}
use Rattle.aarp.specs.Choosing.{minded}
use Rattle.router.proofs.setters.mind_all.Goals as goal

pub loop-port-preserved : goal.loop-port-preserved
loop-port-preserved c =
    rw (c.mind.ensures, ← c.port-item.is)
    (map_over_more (minded c.args.care) c.args.ports.now c.loop-port.ports c.loop-port.port-index c.port-item.result
    c.loop-port-test.true c.loop-port.invariant c.port-item.is)
