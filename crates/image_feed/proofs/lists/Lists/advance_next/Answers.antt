use Rattle.std.proofs.Common.{◌≡◌, ◌∙◌, Ok, Bor, List, ℕ, [], slice_get, ap}
use Rattle.std.specs.Prelude.{unwrap_or}
use Rattle.std.specs.Option.{option_copied}
use Rattle.at_base.specs.Reading.{◌>>=◌}
use Rattle.table_image.specs.declared.zone_list.ZoneList.{ZoneList}
use Rattle.image_feed.specs.Fronts.{place_in}
use Rattle.image_feed.specs.Growing.{head_on, none_left}
use Rattle.image_feed.specs.Zones.{is_next_whole, list_head, names_on, next_on, with_head, zones_in}
use Rattle.image_feed.proofs.Leading.{advances_bind, advances_then, leads_bind}
use Rattle.image_feed.proofs.lists.Lists.advance_next.Goals as goal

pub returns-clause-next : goal.returns-clause-next
returns-clause-next c =
    let like = c.args.like.now in
    let version = c.args.version in
    let was = c.args.self.now in
    let mid = record was { head = c.read_head.new.head } in
    let new = record mid { names = c.advance.new.self } in
    let likes = zones_in (slice_get like (place_in was.front)) in
    let lead = leads_bind {B = ZoneList × List ℕ} (λ h. names_on version likes was.names h.1 >>= λ z. Ok (with_head h.0 z.0, z.1))
    (head_on (list_head was.low) was.head) (head_on (list_head was.low) mid.head) c.args.bytes.now c.in_ok-rest.rest.now
    (c.in_ok-rest.ensures {u = tt}).0 in
    let zones : unwrap_or (option_copied c.zones_of.result) [] ≡ likes =
    c.zones_of.ensures ∙ ap zones_in (c.part_at-expected.ensures ∙ ap (slice_get like) c.place.ensures) in
    let said = rw zones at c.advance.ensures in
    let bound = advances_bind {B = ZoneList × List ℕ} (λ z. Ok (with_head c.in-Some.field-0 z.0, z.1)) {X = Bor (List ℕ)} (λ rest. rest.now)
    (names_on version likes was.names) (names_on version likes new.names) c.in_ok-rest.rest.now (none_left new.names.left) c.advance.result said in
    advances_then {X = Bor (List ℕ)} (λ rest. rest.now) (next_on version like was) (next_on version like mid)
    (next_on version like new) c.args.bytes.now
    c.in_ok-rest.rest.now (is_next_whole new) c.advance.result lead (rw c.in-Some.is bound)
