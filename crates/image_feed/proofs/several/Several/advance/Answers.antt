use Rattle.std.proofs.Common.{refl, Bor, List, ℕ}
use Rattle.table_image.specs.Counts.{size_of}
use Rattle.image_feed.proofs.Leading.{counted_then}
use Rattle.image_feed.proofs.several.Several.advance.Goals as goal

pub returns : goal.returns
returns g c =
    let new = c.advance_items.new.self in
    let said = rw c.make_room.ensures.stays at c.advance_items.ensures.next in
    counted_then (g.T.Item.spelling c.args.context) g.T.Item.next {X = Bor (List ℕ)} (λ rest. rest.now) (size_of c.args.size) c.args.limit c.args.self.now.left
    c.read_count.new.left new.left c.args.self.now.items.items new.items.items c.args.self.now.low new.low
    c.args.bytes.now c.in_ok-rest.rest.now c.advance_items.result (c.in_ok-rest.ensures {u = tt}).0 (rw c.in-Some.is refl)
    c.advance_items.ensures.some said
