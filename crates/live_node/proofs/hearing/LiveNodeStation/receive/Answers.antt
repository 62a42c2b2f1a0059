use Rattle.std.proofs.Common.{sym}
use Rattle.station.specs.Hearing.{hearing}
use Rattle.live_node.proofs.Heard.{heard}
use Rattle.live_node.proofs.hearing.LiveNodeStation.receive.Goals as goal

pub returns-clause-ok : goal.returns-clause-ok
returns-clause-ok c =
    rw (sym c.self.view_is)
    (heard _ (hearing c.args.heard.now) c.args.outputs.now.items c.hear.new.outputs.items c.hear.new.self c.learn.new.self
    _ c.in_ok-taken.ensures.ok c.in_ok-taken.ensures.taken c.learn.ensures)
