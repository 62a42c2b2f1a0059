-- Parts of which nothing was read are read as by their formats.
use Rattle.std.proofs.Common.{◌≡◌, ◌∙◌, ap, ℕ, ◌+◌, true, List, [], length, Option, None, Result, Ok, Err, refl}
use Rattle.at_base.specs.declared.error.Cause.TheVariants.{Count, Value}
use Rattle.at_base.specs.Address.{address_number}
use Rattle.at_base.specs.Grammar.{Grammar, Size, number, one, run, two}
use Rattle.at_base.specs.Reading.{◌>>=◌, field_at, read}
use Rattle.table_image.specs.Flaws.{Wrong, faults}
use Rattle.table_image.specs.Spelling.{mapping_spelling, mappings_spelling}
use Rattle.table_image.specs.Spelling.{address_spelling, cable_spelling, counted, name_spelling, node_spelling, own_router_spelling, port_spelling}
use Rattle.table_image.specs.Spelling.{router_spelling, row_spelling, zone_list_spelling, zone_spelling, zones_spelling}
use Rattle.table_image.specs.Tests.{any, below, rising, within}
use Rattle.table_image.specs.Sizes.{hardware_size}
use Rattle.at_base.specs.Limits.{max_lists, max_mappings, max_names, max_ports, max_rows}
use Rattle.table_image.specs.declared.cable.Cable.{Cable}
use Rattle.table_image.specs.declared.router.Router.{Router}
use Rattle.table_image.specs.declared.flaw.Fault.{Fault}
use Rattle.table_image.specs.declared.mapping.Mapping.{Mapping}
use Rattle.table_image.specs.declared.version.Version.{Version}
use Rattle.table_image.specs.declared.version.Version.TheVariants.{V1, V2}
use Rattle.table_image.specs.declared.zone_list.ZoneList.{ZoneList}
use Rattle.image_feed.specs.declared.front.Front.{Front}
use Rattle.image_feed.specs.declared.front.Front.TheVariants.{Same}
use Rattle.image_feed.specs.declared.cable.GrowingCable.{GrowingCable}
use Rattle.image_feed.specs.declared.node.GrowingNode.{GrowingNode}
use Rattle.image_feed.specs.declared.port.GrowingPort.{GrowingPort}
use Rattle.image_feed.specs.declared.router.GrowingRouter.{GrowingRouter}
use Rattle.image_feed.specs.declared.several.Several.{Several}
use Rattle.image_feed.specs.declared.lists.Lists.{Lists}
use Rattle.image_feed.specs.declared.names.Names.{Names}
use Rattle.image_feed.specs.Growing.{begun_on, count_on, counted_on, items_on}
use Rattle.image_feed.specs.Parts.{AreUnread, IsNewNode, IsNewPort, IsNewRouter, cable_head, cable_on, lists_of, mappings_on, node_head}
use Rattle.image_feed.specs.Parts.{node_on, port_head, port_on, ports_on, router_on, zones_of}
use Rattle.image_feed.proofs.Leading.{begun_fresh, bind_same, growth_new}
use Rattle.image_feed.specs.Zones.{IsFresh, list_head, lists_on, names_on, next_on, zones_in}
use Rattle.image_feed.specs.Fronts.{front_of, place_in}
use Rattle.std.specs.Prelude.{slice_get}

-- what follows the last step may as well follow each
pub assoc : {A B C : Type 0} (m : Result A Fault) (f : A → Result B Fault) (g : B → Result C Fault) (h : A → Result C Fault)
    → ((x : A) → (f x >>= g) ≡ h x) → ((m >>= f) >>= g) ≡ (m >>= h)
assoc (Ok x) f g h e = e x
assoc (Err q) f g h e = refl

pub counted_new : {B : Type 0} (size : Size) (limit : ℕ) (item : ℕ → Grammar Wrong true B) (next : B → ℕ) (bytes : List ℕ)
    → counted_on size limit item next None [] 0 bytes ≡ read faults (counted size limit item next) bytes
unfolding counted
counted_new size limit item next bytes = refl

-- nothing was read of several parts
pub several_new : {B : Type 0} (size : Size) (limit : ℕ) (item : ℕ → Grammar Wrong true B) (next : B → ℕ) (s : Several B) (bytes : List ℕ)
    → AreUnread s → counted_on size limit item next s.left s.items.items s.low bytes ≡ read faults (counted size limit item next) bytes
several_new size limit item next s bytes new = rw (new.left, new.items, new.low) (counted_new size limit item next bytes)

pub names_new : (version : Version) (like : List (List ℕ)) (names : Names) (bytes : List ℕ) → names.left ≡ None → names.front ≡ Same 0
    → names_on version like names bytes ≡ read faults (zones_spelling version) bytes
unfolding counted zones_spelling
names_new version like names bytes left front = rw (left, front) refl

pub list_new : (version : Version) (like : List ZoneList) (lists : Lists) (bytes : List ℕ) → lists.head ≡ None → lists.names.left ≡ None
    → lists.names.front ≡ Same 0 → next_on version like lists bytes ≡ read faults (zone_list_spelling version lists.low) bytes
unfolding list_head zone_list_spelling
list_new version like lists bytes head left front =
    rw head
    (assoc (field_at faults (number two (rising lists.low)) bytes) _ _ _ (λ x.
    assoc (field_at faults (number two any) x.1) _ _ _ (λ y.
    assoc (field_at faults (number one (within 0 1 Value)) y.1) _ _ _ (λ z.
    rw (names_new version (zones_in (slice_get like (place_in lists.front))) lists.names z.1 left front) refl))))

pub lists_new : (version : Version) (like : List ZoneList) (lists : Lists) (bytes : List ℕ) → IsFresh lists
    → lists_on version like lists bytes ≡ read faults (counted one max_lists (zone_list_spelling version) (λ l. l.start + 1)) bytes
unfolding counted
lists_new version like lists bytes fresh =
    let item = zone_list_spelling version in
    ap (λ (left : Option ℕ). count_on one max_lists left bytes >>= λ x.
    begun_on item (λ l. l.start + 1) (next_on version like lists) (front_of like lists.front) x.0 x.1) fresh.left
    ∙ bind_same (field_at faults (number one (within 0 max_lists Count)) bytes) _ _ (λ x.
    begun_fresh item (λ l. l.start + 1) (next_on version like lists) (front_of like lists.front) 0 x.0 x.1
    (list_new version like lists x.1 fresh.head fresh.names_left fresh.names_front
    ∙ ap (λ (low : ℕ). read faults (zone_list_spelling version low) x.1) fresh.low)
    ∙ ap (λ (front : Front ZoneList). items_on item (λ l. l.start + 1) (front_of like front) 0 x.0 x.1) fresh.front)

pub cable_new : (version : Version) (like : Option Cable) (cable : GrowingCable) (bytes : List ℕ) → cable.head ≡ None → cable.names.left ≡ None
    → cable.names.front ≡ Same 0 → cable_on version like cable bytes ≡ read faults (cable_spelling version) bytes
unfolding cable_head cable_spelling
cable_new version like cable bytes head left front =
    rw head
    (assoc (field_at faults (number two any) bytes) _ _ _ (λ x.
    assoc (field_at faults (number two any) x.1) _ _ _ (λ y.
    rw (names_new version (zones_of like) cable.names y.1 left front) refl)))

pub mappings_new : (version : Version) (m : Several Mapping) (bytes : List ℕ) → AreUnread m
    → mappings_on version m bytes ≡ read faults (mappings_spelling version) bytes
unfolding mappings_spelling
mappings_new V1 m bytes new = ap (λ (items : List Mapping). Ok (items, bytes)) new.items
mappings_new V2 m bytes new = several_new two max_mappings mapping_spelling (λ a. address_number a.address + 1) m bytes new

pub port_new : (version : Version) (cables : ℕ) (port : GrowingPort) (bytes : List ℕ) → IsNewPort port
    → port_on version cables port bytes ≡ read faults (port_spelling version cables) bytes
unfolding port_head port_spelling
port_new version cables port bytes new =
    rw new.head
    (assoc (field_at faults (number one (below cables)) bytes) _ _ _ (λ a.
    assoc (read faults address_spelling a.1) _ _ _ (λ b.
    assoc (field_at faults (run hardware_size any) b.1) _ _ _ (λ d.
    rw (mappings_new version port.mappings d.1 new.mappings) refl))))

pub node_new : (version : Version) (cables : ℕ) (node : GrowingNode) (bytes : List ℕ) → IsNewNode node
    → node_on version cables node bytes ≡ read faults (node_spelling version cables) bytes
unfolding node_head node_spelling
node_new version cables node bytes new =
    rw new.head
    (assoc (field_at faults (number one (below cables)) bytes) _ _ _ (λ a.
    assoc (read faults address_spelling a.1) _ _ _ (λ b.
    assoc (field_at faults (run hardware_size any) b.1) _ _ _ (λ d.
    assoc (read faults zone_spelling d.1) _ _ _ (λ e.
    assoc (read faults own_router_spelling e.1) _ _ _ (λ f.
    rw (several_new one max_names name_spelling (λ n. n.enumerator + 1) node.names f.1 new.names)
    (bind_same (read faults (counted one max_names name_spelling (λ n. n.enumerator + 1)) f.1) _ _ (λ g.
    rw (mappings_new version node.mappings g.1 new.mappings) refl))))))))

pub ports_new : (version : Version) (cables : ℕ) (r : GrowingRouter) (bytes : List ℕ) → IsNewRouter r
    → ports_on version cables r bytes ≡ read faults (counted one max_ports (λ low. port_spelling version cables) (λ p. 0)) bytes
ports_new version cables r bytes new =
    growth_new max_ports (port_spelling version cables) (λ like p. port_on version cables p) r.ports.left r.ports.items.items r.ports.hint r.ports.next
    bytes new.ports_left new.ports (λ like b. port_new version cables r.ports.next b new.port)
    ∙ counted_new one max_ports (λ low. port_spelling version cables) (λ p. 0) bytes

pub router_new : (version : Version) (cables : ℕ) (like : Option Router) (r : GrowingRouter) (bytes : List ℕ) → IsNewRouter r
    → router_on version cables like r bytes ≡ read faults (router_spelling version cables) bytes
unfolding router_spelling
router_new version cables like r bytes new =
    rw (ports_new version cables r bytes new)
    (bind_same (read faults (counted one max_ports (λ low. port_spelling version cables) (λ p. 0)) bytes) _ _ (λ p.
    rw (several_new one max_rows (row_spelling (length p.0)) (λ r. r.start + 1) r.rows p.1 new.rows)
    (bind_same (read faults (counted one max_rows (row_spelling (length p.0)) (λ r. r.start + 1)) p.1) _ _ (λ q.
    rw (lists_new version (lists_of like) r.lists q.1 new.lists) refl))))
