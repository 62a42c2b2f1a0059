use Rattle.std.proofs.Common.{◌≡◌, ◌∙◌, Some, [], ◌∷◌, ◌++◌, ◌+◌, None, slice_get, refl, sym, ap}
use Rattle.std.specs.Prelude.{unwrap_or}
use Rattle.std.specs.Option.{option_copied}
use Rattle.table_image.specs.declared.zone_list.ZoneList.{ZoneList}
use Rattle.image_feed.specs.declared.lists.Lists.{Lists}
use Rattle.image_feed.specs.Fronts.{front_of, place_in}
use Rattle.image_feed.specs.Zones.{head_of, with_head, zones_in}
use Rattle.image_feed.proofs.Ends.{list_ends, list_same, ok_then}
use Rattle.image_feed.proofs.lists.Lists.end.Goals as goal

pub returns-then-are_same-clause-ended : goal.returns-then-are_same-clause-ended
returns-then-are_same-clause-ended c =
    let like = c.args.like.now in
    let was = c.args.self.now in
    let list = c.in-Some.list.now in
    let new : Lists = record { left = Some c.args.after; front = c.push_same.new.self; low = c.from.result + 1; head = None; names = c.new.result } in
    let at : slice_get like (place_in was.front) ≡ Some list =
    sym (ap (slice_get like) c.place.ensures) ∙ (sym c.part_at-expected.ensures ∙ ap option_copied c.in-Some.is) in
    let head : head_of list ≡ c.args.head = c.is_of.ensures c.if-is_of.true in
    let names : front_of list.zones was.names.front ≡ list.zones = rw c.as_slice.ensures at (c.are_same.ensures c.if-are_same.true) in
    let same : with_head c.args.head (front_of (zones_in (slice_get like (place_in was.front))) was.names.front) ≡ list =
    rw at (list_same like list (place_in was.front) c.args.head (front_of list.zones was.names.front) at head names) in
    ok_then c.push_same.result c.push_same.ensures.pushed (λ pushed version.
    list_ends version like was new c.args.after c.args.head c.requires.left c.requires.head c.requires.whole refl
    (record { head = refl; left = c.new.ensures.left; front = c.new.ensures.front }) (ap (λ n. n + 1) c.from.ensures)
    (pushed ∙ ap (λ (l : ZoneList). front_of like was.front ++ l ∷ []) (sym same)))

pub returns-clause-ended : goal.returns-clause-ended
returns-clause-ended c =
    let like = c.args.like.now in
    let was = c.args.self.now in
    let new : Lists = record { left = Some c.args.after; front = c.push.new.self; low = c.from.result + 1; head = None; names = c.take.new.self } in
    let likes : unwrap_or (option_copied c.zones_of.result) [] ≡ zones_in (slice_get like (place_in was.front)) =
    c.zones_of.ensures ∙ ap zones_in (c.part_at-expected.ensures ∙ ap (slice_get like) c.place.ensures) in
    let took = c.in_ok-zones.ensures {u = tt} in
    let zones : c.in_ok-zones.zones ≡ front_of (zones_in (slice_get like (place_in was.front))) was.names.front = rw likes at took.taken in
    let list : c.with.result ≡ with_head c.args.head (front_of (zones_in (slice_get like (place_in was.front))) was.names.front) =
    c.with.ensures ∙ ap (with_head c.args.head) zones in
    ok_then c.push.result c.push.ensures.pushed (λ pushed version.
    list_ends version like was new c.args.after c.args.head c.requires.left c.requires.head c.requires.whole refl
    (record { head = refl; left = took.left; front = took.front }) (ap (λ n. n + 1) c.from.ensures)
    (pushed ∙ ap (λ (l : ZoneList). front_of like was.front ++ l ∷ []) list))
