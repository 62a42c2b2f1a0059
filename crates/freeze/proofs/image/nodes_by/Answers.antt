use Rattle.std.proofs.Common.{IsTrue, length, sym, subst}
use Rattle.std.specs.List.{list_all}
use Rattle.freeze.proofs.Valid.{nodes_on}
use Rattle.freeze.specs.Valid.{is_node_on}
use Rattle.freeze.proofs.image.nodes_by.Goals as goal

pub returns-clause-valid : goal.returns-clause-valid
returns-clause-valid g c few =
    let plan = c.args.plan.now in
    c.nodes_of.ensures.valid (length plan.cables)
    (subst (λ ns. IsTrue (list_all (is_node_on (length plan.cables)) ns)) (sym c.nodes_in.ensures.value)
    (nodes_on plan.cables plan.nodes c.recall_sound.ensures.nodes)) (c.node_mappers-mappers.ensures.few few)
