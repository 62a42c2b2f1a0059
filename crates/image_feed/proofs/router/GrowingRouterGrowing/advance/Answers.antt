use Rattle.std.proofs.Common.{◌≡◌, ◌&&◌, Bor, List, ℕ, true, sym}
use Rattle.std.specs.Option.{option_copied}
use Rattle.at_base.specs.Limits.{max_ports}
use Rattle.table_image.specs.Spelling.{port_spelling}
use Rattle.table_image.specs.declared.router.Router.{Router}
use Rattle.image_feed.specs.Growing.{none_left}
use Rattle.image_feed.specs.Parts.{port_on, ports_on, rows_on}
use Rattle.image_feed.proofs.Leading.{first_waits, growth_whole, second_goes, stops_bind}
use Rattle.image_feed.proofs.router.GrowingRouterGrowing.advance.Goals as goal

pub returns-in-Err : goal.returns-in-Err
returns-in-Err c =
    let v = c.args.context.version in
    let was = c.args.self.now in
    stops_bind {B = Router × List ℕ} (λ p. rows_on v (option_copied c.args.like) was p.0 p.1) (ports_on v c.args.context.cables was)
    c.args.bytes.now c.in-Err.stop (c.in-Err.ensures {u = tt})

pub returns-then-not-is_whole : goal.returns-then-not-is_whole
returns-then-not-is_whole c =
    let v = c.args.context.version in
    let was = c.args.self.now in
    let like = option_copied c.args.like in
    let ports = c.advance.new.self in
    let mid = record was { ports = ports } in
    first_waits {X = Bor (List ℕ)} (λ rest. rest.now) (ports_on v c.args.context.cables was) (ports_on v c.args.context.cables mid)
    (rows_on v like was) c.args.bytes.now c.in-Ok.rest (none_left ports.left)
    (none_left ports.left && none_left was.rows.left && none_left was.lists.left) (c.in-Ok.ensures {u = tt})
    (sym (c.if-not-is_whole.ensures {u = tt}))

pub returns : goal.returns
returns c =
    let v = c.args.context.version in
    let cables = c.args.context.cables in
    let was = c.args.self.now in
    let like = option_copied c.args.like in
    let ports = c.advance.new.self in
    let mid = record was { ports = ports } in
    let new = c.advance_rows.new.self in
    let whole : none_left ports.left ≡ true = sym (c.if-not-is_whole.ensures {u = tt}) in
    rw (c.advance_rows.ensures.ports, whole)
    (second_goes {X = Bor (List ℕ)} (λ rest. rest.now) (ports_on v cables was) (ports_on v cables mid)
    (rows_on v like was) (rows_on v like new) c.args.bytes.now c.in-Ok.rest.now ports.items.items
    (none_left new.rows.left && none_left new.lists.left) c.advance_rows.result (c.in-Ok.ensures {u = tt}).0
    (growth_whole max_ports (port_spelling v cables) (λ like p. port_on v cables p) ports.left ports.items.items ports.hint ports.next whole)
    c.advance_rows.ensures.next)
