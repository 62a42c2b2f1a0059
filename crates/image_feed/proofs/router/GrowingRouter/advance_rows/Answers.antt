use Rattle.std.proofs.Common.{◌≡◌, ◌+◌, ◌&&◌, Ok, Bor, List, ℕ, length, true, sym}
use Rattle.std.specs.Option.{option_copied}
use Rattle.at_base.specs.Grammar.{one}
use Rattle.at_base.specs.Limits.{max_rows}
use Rattle.table_image.specs.Spelling.{row_spelling}
use Rattle.table_image.specs.declared.router.Router.{Router}
use Rattle.image_feed.specs.Growing.{counted_on, none_left}
use Rattle.image_feed.specs.Parts.{lists_of, lists_part}
use Rattle.image_feed.specs.Zones.{lists_on}
use Rattle.image_feed.proofs.Leading.{advances_bind, counted_whole, first_waits, second_goes, stops_bind}
use Rattle.image_feed.proofs.router.GrowingRouter.advance_rows.Goals as goal

pub returns-in-Err-clause-next : goal.returns-in-Err-clause-next
returns-in-Err-clause-next c =
    let v = c.args.context.version in
    let was = c.args.self.now in
    let ports = was.ports.items.items in
    let like = option_copied c.args.like in
    let said = rw (c.with_ports-of_ports.ensures, c.as_slice.ensures.value) at (c.in-Err.ensures {u = tt}) in
    stops_bind {B = Router × List ℕ} (λ p. lists_part v like was.lists ports p.0 p.1)
    (counted_on one max_rows (row_spelling (length ports)) (λ r. r.start + 1) was.rows.left was.rows.items.items was.rows.low) c.args.bytes.now c.in-Err.stop
    said

pub returns-then-not-is_whole-clause-next : goal.returns-then-not-is_whole-clause-next
returns-then-not-is_whole-clause-next c =
    let v = c.args.context.version in
    let was = c.args.self.now in
    let ports = was.ports.items.items in
    let like = option_copied c.args.like in
    let rows = c.advance.new.self in
    let said = rw (c.with_ports-of_ports.ensures, c.as_slice.ensures.value) at (c.in-Ok.ensures {u = tt}) in
    first_waits {X = Bor (List ℕ)} (λ rest. rest.now)
    (counted_on one max_rows (row_spelling (length ports)) (λ r. r.start + 1) was.rows.left was.rows.items.items was.rows.low)
    (counted_on one max_rows (row_spelling (length ports)) (λ r. r.start + 1) rows.left rows.items.items rows.low)
    (lists_part v like was.lists ports) c.args.bytes.now c.in-Ok.rest (none_left rows.left) (none_left rows.left && none_left was.lists.left)
    said (sym (c.if-not-is_whole.ensures {u = tt}))

pub returns-clause-next : goal.returns-clause-next
returns-clause-next c =
    let v = c.args.context.version in
    let was = c.args.self.now in
    let ports = was.ports.items.items in
    let like = option_copied c.args.like in
    let rows = c.advance.new.self in
    let lists = c.advance-2.new.self in
    let whole : none_left rows.left ≡ true = sym (c.if-not-is_whole.ensures {u = tt}) in
    let said = rw (c.with_ports-of_ports.ensures, c.as_slice.ensures.value) at (c.in-Ok.ensures {u = tt}) in
    let next = rw c.lists_of.ensures at c.advance-2.ensures in
    let bound = advances_bind {B = Router × List ℕ} (λ l. Ok (record { ports = ports; rows = rows.items.items; lists = l.0 }, l.1)) {X = Bor (List ℕ)}
    (λ rest. rest.now) (lists_on v (lists_of like) was.lists) (lists_on v (lists_of like) lists) c.in-Ok.rest.now (none_left lists.left)
    c.advance-2.result next in
    rw whole
    (second_goes {X = Bor (List ℕ)} (λ rest. rest.now)
    (counted_on one max_rows (row_spelling (length ports)) (λ r. r.start + 1) was.rows.left was.rows.items.items was.rows.low)
    (counted_on one max_rows (row_spelling (length ports)) (λ r. r.start + 1) rows.left rows.items.items rows.low)
    (lists_part v like was.lists ports) (lists_part v like lists ports) c.args.bytes.now c.in-Ok.rest.now rows.items.items (none_left lists.left)
    c.advance-2.result said.0
    (counted_whole one max_rows (row_spelling (length ports)) (λ r. r.start + 1) rows.left rows.items.items rows.low whole) bound)
