use Rattle.std.proofs.Common.{◌≡◌, ◌≤◌, ◌+◌, ◌++◌, List, ℕ, take}
use Rattle.table_image.specs.Spelling.{zone_list_spelling}
use Rattle.table_image.specs.declared.zone_list.ZoneList.{ZoneList}
use Rattle.image_feed.specs.Growing.{Leads, items_on}
use Rattle.image_feed.proofs.lists.after_same.Given as goal

abbrev pub invariant-loop-list : goal.invariant-loop-list
invariant-loop-list l =
    (l.count ≡ l.list-index) × (l.count ≤ l.most)
    × ((front : List ZoneList) (n : ℕ) → Leads (items_on (zone_list_spelling l.version) (λ l. l.start + 1) front l.low (l.count + n)) l.bytes
    (items_on (zone_list_spelling l.version) (λ l. l.start + 1) (front ++ take l.count l.lists) l.last n) l.rest)
