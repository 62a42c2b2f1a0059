use Rattle.std.proofs.Common.{sym, subst, option_copied}
use Rattle.std.specs.List.{AllByRecursion as Each}
use Rattle.at_base.specs.Spelling.{IsValue}
use Rattle.at_base.specs.Text.{IsName}
use Rattle.freeze.proofs.Values.{node_value}
use Rattle.nbp.specs.Registered.{IsNames}
use Rattle.table_image.proofs.CheckedParts.{FitsName, FitsNode}
use Rattle.table_image.specs.Spelling.{mappings_spelling, node_spelling, own_router_spelling}
use Rattle.freeze.proofs.nodes.freeze_node.Goals as goal

pub returns-clause-valid : goal.returns-clause-valid
returns-clause-valid c count there few =
    let is = c.in_ok-frozen.ensures.ok in
    let v = c.args.version in
    subst (λ x. IsValue (node_spelling v count) x) (sym is)
    (node_value v count c.args.cable c.args.node.now (option_copied c.args.mapper) there (subst FitsNode is c.fit_node.ensures.node)
    (subst IsName c.zone.ensures c.as_slice-zone.ensures.named)
    (subst (λ x. IsValue own_router_spelling x.router) is c.fit_node.ensures.router)
    (subst IsNames c.names.ensures c.entries-names.ensures.names)
    (subst (λ x. Each FitsName x.names) is c.fit_node.ensures.names)
    (subst (λ x. IsValue (mappings_spelling v) x.mappings) is (c.in_ok-frozen.ensures.known few)))
