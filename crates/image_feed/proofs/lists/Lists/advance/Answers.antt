use Rattle.std.proofs.Common.{Bor, List, [], ℕ, ◌+◌}
use Rattle.std.specs.Prelude.{unwrap_or}
use Rattle.std.specs.Option.{option_copied}
use Rattle.at_base.specs.Grammar.{one}
use Rattle.at_base.specs.Limits.{max_lists}
use Rattle.table_image.specs.Spelling.{zone_list_spelling}
use Rattle.image_feed.specs.Fronts.{front_of}
use Rattle.image_feed.specs.Growing.{begun_on, count_on, none_left}
use Rattle.image_feed.specs.Zones.{lists_on, next_on}
use Rattle.image_feed.proofs.Leading.{advances_then, leads_bind}
use Rattle.image_feed.proofs.lists.Lists.advance.Goals as goal

pub returns : goal.returns
returns c =
    let like = unwrap_or (option_copied c.args.like) [] in
    let version = c.args.version in
    let was = c.args.self.now in
    let after = c.advance_lists.new.self in
    let counted = record was { left = c.read_count.new.left } in
    let said = rw c.parts_of.ensures at c.advance_lists.ensures.next in
    advances_then {X = Bor (List ℕ)} (λ rest. rest.now) (lists_on version like was) (lists_on version like counted)
    (lists_on version like after) c.args.bytes.now
    c.in_ok-rest.rest.now (none_left after.left) c.advance_lists.result
    (leads_bind (λ x. begun_on (zone_list_spelling version) (λ l. l.start + 1) (next_on version like was) (front_of like was.front) x.0 x.1)
    (count_on one max_lists was.left) (count_on one max_lists c.read_count.new.left) c.args.bytes.now c.in_ok-rest.rest.now (c.in_ok-rest.ensures {u = tt}).0)
    said
