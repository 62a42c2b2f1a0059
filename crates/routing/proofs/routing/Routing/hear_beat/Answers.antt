use Rattle.text.proofs.Going.{on_ok}
use Rattle.routing.proofs.Blocks.{wrote_beat}
use Rattle.routing.proofs.routing.Routing.hear_beat.Goals as goal

pub returns-clause-heard : goal.returns-clause-heard
returns-clause-heard g c =
    let passed = c.in_ok-pass.ensures {u = tt} in
    on_ok c.print_heartbeat.result c.print_heartbeat.ensures.gone
    (λ answered. wrote_beat g.C.Cabled.acts _ _ c.args.index c.args.time _ _ _ _ _ _ passed.calls passed.ports passed.clock passed.came answered)
