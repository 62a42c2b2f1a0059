-- Zone names and zone lists of which a part was read.
use Rattle.std.specs.Prelude.{◌≡◌, ℕ, ◌+◌, Bool, true, ◌&&◌, List, [], Option, Some, None, Result, Ok, is_some, slice_get}
use Rattle.at_base.specs.declared.error.Cause.TheVariants.{Value}
use Rattle.at_base.specs.Limits.{max_lists}
use Rattle.at_base.specs.Grammar.{Grammar, done, field, number, one, two}
use Rattle.at_base.specs.Reading.{◌>>=◌}
use Rattle.table_image.specs.Flaws.{Wrong}
use Rattle.table_image.specs.Tests.{any, rising, within}
use Rattle.table_image.specs.Spelling.{flag_number, flag_of, zone_list_spelling, zone_spelling}
use Rattle.table_image.specs.Versions.{zone_limit}
use Rattle.table_image.specs.declared.flaw.Fault.{Fault}
use Rattle.table_image.specs.declared.version.Version.{Version}
use Rattle.table_image.specs.declared.zone_list.ZoneList.{ZoneList}
use Rattle.image_feed.specs.declared.names.Names.{Names}
use Rattle.image_feed.specs.declared.front.Front.TheVariants.{Same}
use Rattle.image_feed.specs.declared.heading.ListHead.{ListHead}
use Rattle.image_feed.specs.declared.lists.Lists.{Lists}
use Rattle.image_feed.specs.Growing.{counted_on, grown_on, head_on, none_left}
use Rattle.image_feed.specs.Fronts.{front_of, place_in}

-- the names in a version's image, and the bytes after them, where the other list is like
abbrev pub names_on : Version → List (List ℕ) → Names → List ℕ → Result (List (List ℕ) × List ℕ) Fault
names_on version like names bytes =
    counted_on one (zone_limit version) (λ low. zone_spelling) (λ name. 0) names.left (front_of like names.front) 0 bytes

-- a zone list without its zones
unfoldable pub list_head : ℕ → Grammar Wrong true ListHead
list_head low =
    field (number two (rising low)) (λ h. h.start) (λ start.
    field (number two any) (λ h. h.end) (λ end.
    field (number one (within 0 1 Value)) (λ h. flag_number h.complete) (λ complete.
    done (record { start = start; end = end; complete = flag_of complete }))))

-- the head of a list
abbrev pub head_of : ZoneList → ListHead
head_of list = record { start = list.start; end = list.end; complete = list.complete }

-- the list with this head and these zones
abbrev pub with_head : ListHead → List (List ℕ) → ZoneList
with_head head zones = record { start = head.start; end = head.end; complete = head.complete; zones = zones }

-- the zones of the other list, if there is one
abbrev pub zones_in : Option ZoneList → List (List ℕ)
zones_in None = []
zones_in (Some list) = list.zones

-- the next list, where the other router's lists are like
abbrev pub next_on : Version → List ZoneList → Lists → List ℕ → Result (ZoneList × List ℕ) Fault
next_on version like lists bytes =
    head_on (list_head lists.low) lists.head bytes >>= λ h.
    names_on version (zones_in (slice_get like (place_in lists.front))) lists.names h.1 >>= λ z. Ok (with_head h.0 z.0, z.1)

-- the lists, and the bytes after them, where the other router's are like
abbrev pub lists_on : Version → List ZoneList → Lists → List ℕ → Result (List ZoneList × List ℕ) Fault
lists_on version like lists bytes =
    grown_on max_lists (zone_list_spelling version) (λ l. l.start + 1) (next_on version like lists) lists.left (front_of like lists.front) bytes

-- whether all of the next list was read
abbrev pub is_next_whole : Lists → Bool
is_next_whole lists = is_some lists.head && none_left lists.names.left

-- nothing was read
pub record IsFresh (lists : Lists) : Type 0 where
  pub left : lists.left ≡ None
  pub front : lists.front ≡ Same 0
  pub low : lists.low ≡ 0
  pub head : lists.head ≡ None
  pub names_left : lists.names.left ≡ None
  pub names_front : lists.names.front ≡ Same 0
