-- Zone lists that end.
use Rattle.std.proofs.Common.{◌≡◌, ◌∙◌, ℕ, suc, ◌+◌, true, List, [], ◌∷◌, ◌++◌, Some, None, Result, Ok, Err, OnOk, refl, sym, ap, slice_get}
use Rattle.std.proofs.lemmas.List.{append-nil}
use Rattle.at_base.specs.Reading.{read}
use Rattle.table_image.specs.Flaws.{faults}
use Rattle.table_image.specs.Spelling.{zone_list_spelling}
use Rattle.table_image.specs.declared.version.Version.{Version}
use Rattle.table_image.specs.declared.zone_list.ZoneList.{ZoneList}
use Rattle.image_feed.specs.declared.front.Front.TheVariants.{Same}
use Rattle.image_feed.specs.declared.heading.ListHead.{ListHead}
use Rattle.image_feed.specs.declared.lists.Lists.{Lists}
use Rattle.image_feed.specs.Fronts.{front_of, place_in}
use Rattle.image_feed.specs.Growing.{Leads, items_on, none_left}
use Rattle.image_feed.specs.Zones.{head_of, lists_on, next_on, with_head, zones_in}
use Rattle.image_feed.proofs.Anew.{list_new}
use Rattle.image_feed.proofs.Leading.{begun_fresh, begun_whole, items_step, none_left_is}

abbrev above : ZoneList → ℕ
above l = l.start + 1

-- nothing was read of the next list
pub record IsBetween (lists : Lists) : Type 0 where
  pub head : lists.head ≡ None
  pub left : lists.names.left ≡ None
  pub front : lists.names.front ≡ Same 0

pub between_on : (version : Version) (like : List ZoneList) (lists : Lists) (n : ℕ) (bytes : List ℕ) → lists.left ≡ Some n → IsBetween lists
    → lists_on version like lists bytes ≡ items_on (zone_list_spelling version) above (front_of like lists.front) lists.low n bytes
between_on version like lists n bytes left between =
    rw left (begun_fresh (zone_list_spelling version) above (next_on version like lists) (front_of like lists.front) lists.low n bytes
    (list_new version like lists bytes between.head between.left between.front))

-- the next list was passed whole
pub list_passed : (version : Version) (like : List ZoneList) (was new : Lists) (n : ℕ) (list : ZoneList) (bytes rest : List ℕ) → was.left ≡ Some (suc n) → new.left ≡ Some n
    → IsBetween was → IsBetween new → new.low ≡ list.start + 1 → front_of like new.front ≡ front_of like was.front ++ list ∷ []
    → read faults (zone_list_spelling version was.low) bytes ≡ Ok (list, rest)
    → Leads (lists_on version like was) bytes (lists_on version like new) rest
list_passed version like was new n list bytes rest left less between anew low pushed e = λ more.
    between_on version like was (suc n) (bytes ++ more) left between
    ∙ (items_step (zone_list_spelling version) above (front_of like was.front) was.low n bytes list rest e more
    ∙ sym (between_on version like new n (rest ++ more) less anew ∙ rw (pushed, low) refl))

-- all of the next list was read
list_whole : (version : Version) (like : List ZoneList) (lists : Lists) (h : ListHead) (bytes : List ℕ) → lists.head ≡ Some h → none_left lists.names.left ≡ true
    → next_on version like lists bytes ≡ Ok (with_head h (front_of (zones_in (slice_get like (place_in lists.front))) lists.names.front), bytes)
list_whole version like lists h bytes head whole =
    let names = front_of (zones_in (slice_get like (place_in lists.front))) lists.names.front in
    rw (head, none_left_is lists.names.left whole) (ap (λ (l : List (List ℕ)). Ok (with_head h l, bytes)) (append-nil names))

-- the next list ends
pub list_ends : (version : Version) (like : List ZoneList) (was new : Lists) (n : ℕ) (h : ListHead) → was.left ≡ Some (suc n) → was.head ≡ Some h
    → none_left was.names.left ≡ true → new.left ≡ Some n → IsBetween new → new.low ≡ h.start + 1
    → front_of like new.front
    ≡ front_of like was.front ++ with_head h (front_of (zones_in (slice_get like (place_in was.front))) was.names.front) ∷ []
    → (bytes : List ℕ) → lists_on version like was bytes ≡ lists_on version like new bytes
list_ends version like was new n h left head whole less anew low pushed bytes =
    let list = with_head h (front_of (zones_in (slice_get like (place_in was.front))) was.names.front) in
    let ended : lists_on version like was bytes ≡ items_on (zone_list_spelling version) above (front_of like was.front ++ list ∷ []) (h.start + 1) n bytes =
    rw left (begun_whole (zone_list_spelling version) above (next_on version like was) (front_of like was.front) n bytes list
    (list_whole version like was h bytes head whole)) in
    ended ∙ sym (between_on version like new n bytes less anew ∙ rw (pushed, low) refl)

pub ok_then : {X E : Type 0} {P Q : Type 0} (result : Result X E) → OnOk result P → (P → Q) → OnOk result Q
ok_then (Ok x) h f = f h
ok_then (Err e) h f = tt

-- a list with this head and the other list's zones is the other list
pub list_same : (like : List ZoneList) (list : ZoneList) (place : ℕ) (h : ListHead) (names : List (List ℕ)) → slice_get like place ≡ Some list
    → head_of list ≡ h → names ≡ list.zones → with_head h names ≡ list
list_same like list place h names at head zones = rw (← head, zones) refl
