use Rattle.std.proofs.Common.{IsTrue, subst, sym}
use Rattle.std.specs.List.{list_all}
use Rattle.planned_stations.proofs.Bounds.{low_nodes}
use Rattle.planned_stations.specs.Planning.{is_low_node}
use Rattle.planned_stations.proofs.seats.nodes_in.Goals as goal

pub returns-clause-low : goal.returns-clause-low
returns-clause-low c =
    subst (λ l. IsTrue (list_all is_low_node l)) (sym c.nodes.ensures.value) (low_nodes c.args.plan.now c.nodes.ensures.sound)
