use Rattle.std.proofs.Common.{Bor, List, [], ℕ}
use Rattle.std.specs.Prelude.{unwrap_or}
use Rattle.std.specs.Option.{option_copied}
use Rattle.at_base.specs.Grammar.{one}
use Rattle.table_image.specs.Spelling.{zone_spelling}
use Rattle.table_image.specs.Versions.{zone_limit}
use Rattle.image_feed.specs.Fronts.{front_of}
use Rattle.image_feed.specs.Growing.{count_on, items_on, none_left}
use Rattle.image_feed.specs.Zones.{names_on}
use Rattle.image_feed.proofs.Leading.{advances_then, leads_bind}
use Rattle.image_feed.proofs.names.Names.advance.Goals as goal

pub returns : goal.returns
returns c =
    let like = unwrap_or (option_copied c.args.like) [] in
    let version = c.args.version in
    let was = c.args.self.now in
    let after = c.advance_names.new.self in
    let counted = record was { left = c.read_count.new.left } in
    let said = rw c.parts_of.ensures at (c.advance_names.ensures.next version) in
    let counts = rw c.zone_limit-limit.ensures.value at (c.in_ok-rest.ensures {u = tt}) in
    advances_then {X = Bor (List ℕ)} (λ rest. rest.now) (names_on version like was) (names_on version like counted)
    (names_on version like after) c.args.bytes.now
    c.in_ok-rest.rest.now (none_left after.left) c.advance_names.result
    (leads_bind (λ x. items_on (λ low. zone_spelling) (λ name. 0) (front_of like was.front) 0 x.0 x.1) (count_on one (zone_limit version) was.left)
    (count_on one (zone_limit version) c.read_count.new.left) c.args.bytes.now c.in_ok-rest.rest.now counts.0)
    said
