use Rattle.image_stations.proofs.Addressed.{node_seated}
use Rattle.image_stations.proofs.NodeNames.{names_are}
use Rattle.image_stations.proofs.nodes.node_of.Goals as goal

pub node_by-requires-clause-seated : goal.node_by-requires-clause-seated
node_by-requires-clause-seated c =
    node_seated c.args.image.now c.args.index c.tables_of.result.now c.requires.passes c.tables_of.ensures.known

pub node_by-requires-clause-names : goal.node_by-requires-clause-names
node_by-requires-clause-names c =
    names_are c.args.image.now c.args.index c.tables_of.result.now c.tables_of.ensures.bounded c.tables_of.ensures.known
