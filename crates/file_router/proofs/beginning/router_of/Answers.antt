use Rattle.std.proofs.Common.{◌∙◌, ap, map}
use Rattle.station.specs.Ports.{planned}
use Rattle.file_router.proofs.First.{begun_from, made_as}
use Rattle.file_router.proofs.beginning.router_of.Goals as goal

pub returns-clause-ok : goal.returns-clause-ok
returns-clause-ok c =
    let plans = c.in_ok-plans.ensures {u = tt} in
    let zones = c.in_ok-zones.ensures {u = tt} in
    let read = c.as_slice-2.ensures.value in
    made_as c.new.result _ _
    (begun_from c.args.peers c.args.plan.now.cables c.cables-cables.result.now c.args.router.now c.as_slice.result.now c.as_slice-2.result.now
    c.in_ok-zones.zones c.cables-cables.ensures.value c.as_slice.ensures (ap (map planned) read ∙ plans.begins)
    (ap (map (λ p. p.hw)) read ∙ plans.hardware) zones.ok)
    c.new.ensures.ok
