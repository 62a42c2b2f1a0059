use Rattle.planned_stations.proofs.Beginnings.{node_then}
use Rattle.planned_stations.proofs.plans.+put_nodes.Goals as goal

pub returns-in_ok-push-in-len1-up-clause-put : goal.returns-in_ok-push-in-len1-up-clause-put
returns-in_ok-push-in-len1-up-clause-put g t c =
    node_then c.args.cables.now c.args.nodes.now c.node-item.result c.in_ok-node-in-len1-up.node _ _ _ c.in-len1-up.len_at_least
    c.node-item.is (c.in_ok-node-in-len1-up.ensures {u = tt}).ok (c.in_ok-push-in-len1-up.ensures {u = tt}).items c.put_nodes.result
    c.put_nodes.ensures.put
