use Rattle.std.proofs.Common.{◌≡◌, ◌&&◌, ◌++◌, Bor, List, ℕ, true, sym}
use Rattle.at_base.specs.Limits.{max_cables}
use Rattle.table_image.specs.Spelling.{cable_spelling}
use Rattle.image_feed.specs.Growing.{growth_on, none_left}
use Rattle.image_feed.specs.Parts.{cable_on}
use Rattle.image_feed.specs.Tables.{routers_part}
use Rattle.image_feed.proofs.Leading.{advances_then, growth_whole, second_goes}
use Rattle.image_feed.proofs.tables.Tables.advance_cables.Goals as goal

pub returns-clause-next : goal.returns-clause-next
returns-clause-next c =
    let v = c.args.version in
    let was = c.args.self.now in
    let cables = c.advance.new.self in
    let new = c.advance_routers.new.self in
    let whole : none_left cables.left ≡ true = sym (c.if-not-is_whole.ensures {u = tt}) in
    let said = rw c.nothing-context.ensures at (c.in-Ok.ensures {u = tt}) in
    let mid = c.expect_lists.new.self in
    let kept = c.expect_lists.ensures.others.1 in
    let parts = cables.items.items in
    let next = rw kept at c.advance_routers.ensures.next in
    rw (c.advance_routers.ensures.others.1, kept, whole)
    (second_goes {X = Bor (List ℕ)} (λ rest. rest.now)
    (growth_on max_cables (cable_spelling v) (λ like c. cable_on v like c) was.cables.left was.cables.items.items was.cables.hint was.cables.next)
    (growth_on max_cables (cable_spelling v) (λ like c. cable_on v like c) cables.left parts cables.hint cables.next)
    (routers_part v was) (routers_part v new) c.args.bytes.now c.in-Ok.rest.now parts (none_left new.routers.left && none_left new.nodes.left)
    c.advance_routers.result said.0
    (growth_whole max_cables (cable_spelling v) (λ like c. cable_on v like c) cables.left parts cables.hint cables.next whole)
    (advances_then {X = Bor (List ℕ)} (λ rest. rest.now) (routers_part v was parts) (routers_part v mid parts) (routers_part v new parts) c.in-Ok.rest.now
    c.in-Ok.rest.now (none_left new.routers.left && none_left new.nodes.left) c.advance_routers.result
    (λ more. c.expect_lists.ensures.same v parts (c.in-Ok.rest.now ++ more)) next))
