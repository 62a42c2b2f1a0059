use Rattle.std.proofs.Common.{refl}
use Rattle.text.proofs.Going.{on_ok}
use Rattle.pcapng.specs.Reads.{packed}
use Rattle.routing.proofs.Blocks.{wrote_seen}
use Rattle.routing.proofs.routing.Routing.hear_seen.Goals as goal

pub returns-clause-heard : goal.returns-clause-heard
returns-clause-heard g c =
    let passed = c.in_ok-pass.ensures {u = tt} in
    on_ok c.hear_packet.result c.hear_packet.ensures.came
    (λ came.
    wrote_seen g.C.Cabled.acts _ c.pass.new.self _ _ (packed c.args.seen.now) c.port-port.result _ _ _ _ _ _ passed.calls passed.ports passed.clock passed.came
    c.self.view_is c.port-port.ensures came refl refl refl)
