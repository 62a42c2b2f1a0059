use Rattle.std.proofs.Common.{sym, ◌∙◌}
use Rattle.audit.proofs.Firsts.{item_at}
use Rattle.audit.proofs.Mapped.{by_port, by_node}
use Rattle.audit.proofs.mappings.is_owner.Goals as goal

pub returns-in-Some : goal.returns-in-Some
returns-in-Some c has =
    let i = c.args.image.now in
    let found = c.in-Some.ensures in
    let at = item_at i.routers _ c.in-Port.r _ c.routers.ensures.value found.lookup.3.0 found.lookup.1 in
    by_port c.args.cable c.args.mapping.now i c.in-Port.r c.in-Port.p _ at (sym c.is_port_at.ensures ∙ has)

pub returns-in-Some-get : goal.returns-in-Some-get
returns-in-Some-get c has =
    let i = c.args.image.now in
    let found = c.in-Some-get.ensures in
    let at = item_at i.nodes _ c.in-Node.k _ c.nodes.ensures.value found.lookup.3.0 found.lookup.1 in
    by_node c.args.cable c.args.mapping.now i c.in-Node.k _ at (sym c.is_node.ensures ∙ has)
