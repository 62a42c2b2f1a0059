use Rattle.std.proofs.Common.{◌≡◌, Bor, List, ℕ, length, true, sym}
use Rattle.at_base.specs.Limits.{max_routers}
use Rattle.table_image.specs.Spelling.{router_spelling}
use Rattle.image_feed.specs.Growing.{growth_on, none_left}
use Rattle.image_feed.specs.Parts.{router_on}
use Rattle.image_feed.specs.Tables.{nodes_part}
use Rattle.image_feed.proofs.Leading.{growth_whole, second_goes}
use Rattle.image_feed.proofs.tables.Tables.advance_routers.Goals as goal

pub returns-clause-next : goal.returns-clause-next
returns-clause-next c =
    let v = c.args.version in
    let was = c.args.self.now in
    let cables = was.cables.items.items in
    let routers = c.advance.new.self in
    let new = c.advance_nodes.new.self in
    let whole : none_left routers.left ≡ true = sym (c.if-not-is_whole.ensures {u = tt}) in
    let said = rw c.context-context.ensures at (c.in-Ok.ensures {u = tt}) in
    rw (c.advance_nodes.ensures.others.2, whole)
    (second_goes {X = Bor (List ℕ)} (λ rest. rest.now)
    (growth_on max_routers (router_spelling v (length cables)) (λ like r. router_on v (length cables) like r) was.routers.left was.routers.items.items
    was.routers.hint was.routers.next)
    (growth_on max_routers (router_spelling v (length cables)) (λ like r. router_on v (length cables) like r) routers.left routers.items.items
    routers.hint routers.next)
    (nodes_part v was cables) (nodes_part v new cables) c.args.bytes.now c.in-Ok.rest.now routers.items.items (none_left new.nodes.left)
    c.advance_nodes.result said.0
    (growth_whole max_routers (router_spelling v (length cables)) (λ like r. router_on v (length cables) like r) routers.left routers.items.items
    routers.hint routers.next whole) (c.advance_nodes.ensures.next routers.items.items))
