use Rattle.std.proofs.Common.{IsTrue, length, map, sym, subst}
use Rattle.std.specs.List.{list_all}
use Rattle.freeze.proofs.Valid.{have_ports, routers_on}
use Rattle.freeze.specs.Valid.{HavePorts, is_on}
use Rattle.freeze.proofs.image.routers_by.Goals as goal

pub returns-clause-valid : goal.returns-clause-valid
returns-clause-valid g c short few =
    let plan = c.args.plan.now in
    c.routers_of.ensures.valid (length plan.cables)
    (subst (λ rs. IsTrue (list_all (is_on (length plan.cables)) rs)) (sym c.routers_in.ensures.value)
    (routers_on plan.cables plan.routers c.recall_sound.ensures.routers))
    (subst (λ rs. HavePorts rs c.args.stations.now) (sym c.routers_in.ensures.value)
    (have_ports plan.routers (map (λ n. 1) plan.nodes) c.args.stations.now c.requires)) short few
