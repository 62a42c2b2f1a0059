use Rattle.std.proofs.Common.{◌≡◌, ◌∙◌, ◌++◌, List, length, ap, arith}
use Rattle.aarp.specs.Choosing.{Choice}
use Rattle.live_router.specs.Ticking.{all_joined, ports_ticked, probes}
use Rattle.live_router.proofs.Few.{made_in, tick_few}
use Rattle.live_router.proofs.Seated.{all_joined_seated, routes_aged_seated}
use Rattle.station.specs.declared.output.Output.{Output}
use Rattle.live_router.proofs.passing.passed.Goals as goal

pub returns-clause-few : goal.returns-clause-few
returns-clause-few g c =
    let ports = c.args.router.now.ports in
    let is : c.ports_now-after.result.now ≡ ports_ticked ports =
    rw (c.ports_now-after.ensures, c.ports_now.ensures.value) (c.in_ok-ports.ensures {u = tt}).next in
    let same = ap (λ (l : List Choice). length l) c.ports_now.ensures.value in
    tick_few ports c.ports_now-after.result.now (g.T.RouteTable.rows c.routes_now-routes.result.now) c.ports_after.new.made.items
    c.send.new.made.items (omega (arith, same, c.ports_now.ensures.few)) is
    ((c.in_ok-ports.ensures {u = tt}).put ∙ ap (λ (l : List Output). l ++ probes 0 ports) c.nothing-made.ensures.none)
    (omega (arith, (c.in_ok-send.ensures {u = tt}).few))

pub returns-clause-good : goal.returns-clause-good
returns-clause-good g c =
    let ports = c.args.router.now.ports in
    let is : c.ports_now-after.result.now ≡ ports_ticked ports =
    rw (c.ports_now-after.ensures, c.ports_now.ensures.value) (c.in_ok-ports.ensures {u = tt}).next in
    made_in ports c.ports_now-after.result.now c.ports_after.new.made.items c.send.new.made.items is
    (c.in_ok-send.ensures {u = tt}).good
    ((c.in_ok-ports.ensures {u = tt}).good (c.nothing-made.ensures.good (length ports)))

pub returns-clause-seated : goal.returns-clause-seated
returns-clause-seated g c =
    let h = c.args.router.now in
    let n = length h.ports in
    rw ((c.in_ok-tables.ensures {u = tt}).routes)
    (routes_aged_seated n c.args.phase (all_joined 0 h.ports h.routes)
    (all_joined_seated n 0 h.ports h.routes (omega arith) c.ports_now.ensures.seated))
