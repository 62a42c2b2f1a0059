-- The contents of an image are within its limits.
use Rattle.std.proofs.Common.{List, None, Some, [], ap, arith, refl, length, ltb, slice_get, subst, suc, true, zero, ℕ, ◌+◌, ◌<◌, ◌∷◌, ◌≡◌, ◌≤◌}
use Rattle.std.proofs.lemmas.Bool.{ltb-false, ltb-true}
use Rattle.at_base.specs.declared.error.Cause.TheVariants.{Count, Index, Name, Order, Value}
use Rattle.at_base.specs.Address.{address_number}
use Rattle.at_base.specs.Grammar.{Grammar, Size, one, two}
use Rattle.at_base.specs.Spelling.{ListPasses, IsValue}
use Rattle.at_base.specs.Text.{is_name, IsName, IsEntity, is_entity}
use Rattle.at_base.proofs.Fields.{is_right, not_wrong}
use Rattle.table_image.specs.Internet.{Internet}
use Rattle.table_image.specs.Bounds.{AreMappings, AreZones, Every, IsBounded, IsNodeName, IsNodeWithinLimits, IsRow, IsWithinLimits, Rises}
use Rattle.at_base.specs.Limits.{max_ports, max_rows, max_lists, max_zones, max_names, max_cables, max_routers, max_nodes, max_mappings}
use Rattle.table_image.specs.Limits.{max_text, max_distance}
use Rattle.table_image.specs.Flaws.{Wrong, Here, Before}
use Rattle.table_image.specs.Tests.{below, rising, enumerator}
use Rattle.table_image.specs.Versions.{version_number, version_of, zone_limit}
use Rattle.table_image.specs.Spelling.{counted, text_spelling, zone_spelling, zones_spelling, port_spelling, row_spelling}
use Rattle.table_image.specs.Spelling.{zone_list_spelling, router_spelling, name_spelling, node_spelling, front_spelling, cable_spelling}
use Rattle.table_image.specs.Spelling.{image_spelling, mapping_spelling, mappings_spelling}
use Rattle.table_image.specs.declared.cable.Cable.{Cable}
use Rattle.table_image.specs.declared.mapping.Mapping.{Mapping}
use Rattle.table_image.specs.declared.port.Port.{Port}
use Rattle.table_image.specs.declared.row.Row.{Row}
use Rattle.table_image.specs.declared.zone_list.ZoneList.{ZoneList}
use Rattle.table_image.specs.declared.router.Router.{Router}
use Rattle.table_image.specs.declared.node.NodeName.{NodeName}
use Rattle.table_image.specs.declared.node.Node.{Node}
use Rattle.table_image.specs.declared.version.Version.{Version}
use Rattle.table_image.specs.declared.version.Version.TheVariants.{V1, V2}
use Rattle.table_image.proofs.Shape.{within_bounds}

-- ---- counted lists

pub counted_few : {B : Type 0} (size : Size) (limit : ℕ) (item : ℕ → Grammar Wrong true B) (next : B → ℕ) (xs : List B)
    → IsValue (counted size limit item next) xs → length xs ≤ limit
unfolding counted
counted_few size limit item next xs h = (within_bounds 0 limit Count (length xs) h.0.1).1

pub counted_each : {B : Type 0} (size : Size) (limit : ℕ) (item : ℕ → Grammar Wrong true B) (next : B → ℕ) (xs : List B)
    → IsValue (counted size limit item next) xs → ListPasses (λ low. IsValue (item low)) next 0 xs
unfolding counted
counted_each size limit item next xs h = h.1.1

every_passes : {B : Type 0} (passes : ℕ → B → Type 0) (holds : B → Type 0) (next : B → ℕ) → ((low : ℕ) (x : B) → passes low x → holds x)
    → (low : ℕ) (xs : List B) → ListPasses passes next low xs → Every holds xs
every_passes passes holds next each_one low [] h k x e = absurd cc
every_passes {B} passes holds next each_one low (y ∷ ys) h zero x e = let same : y ≡ x = cc in subst holds same (each_one low y h.0)
every_passes passes holds next each_one low (y ∷ ys) h (suc k) x e = every_passes passes holds next each_one (next y) ys h.1 k x e

-- each part of a counted list has each property that all values of its format have
every : {B : Type 0} (size : Size) (limit : ℕ) (item : ℕ → Grammar Wrong true B) (next : B → ℕ) (holds : B → Type 0) → ((low : ℕ) (x : B)
    → IsValue (item low) x → holds x) → (xs : List B) → IsValue (counted size limit item next) xs → Every holds xs
every size limit item next holds each_one xs h = every_passes (λ low. IsValue (item low)) holds next each_one 0 xs (counted_each size limit item next xs h)

-- a list rises if each part passes each_one more than its number to the next one
module _ {X : Type 0} (passes : ℕ → X → Type 0) (number : X → ℕ) (above : (low : ℕ) (x : X) → passes low x → low ≤ number x) where
  all_above : (low : ℕ) (xs : List X) → ListPasses passes (λ x. number x + 1) low xs → (k : ℕ) (b : X) → slice_get xs k ≡ Some b
      → low ≤ number b
  all_above low [] h k b e = cc
  all_above low (x ∷ xs) h zero b e =
      let first = above low x h.0 in
      let same : x ≡ b = cc in
      let starts : number x ≡ number b = ap number same in
      omega arith
  all_above low (x ∷ xs) h (suc k) b e =
      let first = above low x h.0 in
      let later = all_above (number x + 1) xs h.1 k b e in
      omega arith

  rise : (low : ℕ) (xs : List X) → ListPasses passes (λ x. number x + 1) low xs → Rises number xs
  rise low [] h j k a b ea eb lt = cc
  rise low (x ∷ xs) h zero zero a b ea eb lt = absurd (omega arith)
  rise low (x ∷ xs) h (suc j) zero a b ea eb lt = absurd (omega arith)
  rise low (x ∷ xs) h zero (suc k) a b ea eb lt =
      let same : x ≡ a = cc in
      let starts : number x ≡ number a = ap number same in
      let later = all_above (number x + 1) xs h.1 k b eb in
      omega arith
  rise low (x ∷ xs) h (suc j) (suc k) a b ea eb lt = rise (number x + 1) xs h.1 j k a b ea eb (omega arith)

-- ---- fields

not_below : (low n : ℕ) → rising low n ≡ None → low ≤ n
not_below low n e = ltb-false _ _ (not_wrong (ltb n low) (Here Order) None e).0

is_index : (count n : ℕ) → below count n ≡ None → n < count
is_index count n e = ltb-true _ _ (is_right (ltb n count) (Here Index) e)

counts_up : (low n : ℕ) → enumerator low n ≡ None → (1 ≤ n) × (low ≤ n)
counts_up low n e =
    let a = not_wrong (ltb n 1) (Here Value) (rising low n) e in
    (ltb-false _ _ a.0, not_below low n a.1)

name_is : (s : List ℕ) → IsValue zone_spelling s → IsName s
unfolding text_spelling
name_is s h = is_right (is_name s) (Before 1 Name) h.1.0.1

entity_is : (s : List ℕ) → IsValue (text_spelling is_entity) s → IsEntity s
unfolding text_spelling
entity_is s h =
    let len = within_bounds 1 max_text Name (length s) h.0.1 in
    record { some = len.0; few = len.1; test = is_right (is_entity s) (Before 1 Name) h.1.0.1 }

-- ---- parts

few_zones : (version : Version) (n : ℕ) → n ≤ zone_limit version → n ≤ max_zones
few_zones V1 n le = omega arith
few_zones V2 n le = le

zones_are : (version : Version) (zones : List (List ℕ)) → IsValue (zones_spelling version) zones → AreZones zones
unfolding zones_spelling
zones_are version zones h = record {
  few = few_zones version (length zones) (counted_few one (zone_limit version) (λ low. zone_spelling) (λ name. 0) zones h);
  each = every one (zone_limit version) (λ low. zone_spelling) (λ name. 0) (λ zone. IsName zone) (λ low. name_is) zones h;
}

cable_zones : (version : Version) (cable : Cable) → IsValue (cable_spelling version) cable → AreZones cable.zones
unfolding cable_spelling
cable_zones version cable h = zones_are version cable.zones h.1.1.0

mapping_above : (low : ℕ) (m : Mapping) → IsValue (mapping_spelling low) m → low ≤ address_number m.address
unfolding mapping_spelling
mapping_above low m h = ltb-false _ _ (not_wrong (ltb (address_number m.address) low) (Before 2 Order) None h.1.0.1).0

pub mappings_are : (version : Version) (mappings : List Mapping) → IsValue (mappings_spelling version) mappings → AreMappings mappings
unfolding mappings_spelling
mappings_are V1 mappings h = subst AreMappings h (record { few = omega arith; rising = λ j k a b ea eb lt. cc })
mappings_are V2 mappings h = record {
  few = counted_few two max_mappings mapping_spelling (λ m. address_number m.address + 1) mappings h;
  rising = rise (λ low m. IsValue (mapping_spelling low) m) (λ m. address_number m.address) mapping_above 0 mappings
      (counted_each two max_mappings mapping_spelling (λ m. address_number m.address + 1) mappings h);
}

port_cable : (version : Version) (cables : ℕ) (port : Port) → IsValue (port_spelling version cables) port → port.cable < cables
unfolding port_spelling
port_cable version cables port h = is_index cables port.cable h.0.1

port_known : (version : Version) (cables : ℕ) (port : Port) → IsValue (port_spelling version cables) port → AreMappings port.mappings
unfolding port_spelling
port_known version cables port h = mappings_are version port.mappings h.1.1.1.0

row_above : (ports low : ℕ) (row : Row) → IsValue (row_spelling ports low) row → low ≤ row.start
unfolding row_spelling
row_above ports low row h = not_below low row.start h.0.1

row_is : (ports low : ℕ) (row : Row) → IsValue (row_spelling ports low) row → IsRow ports row
unfolding row_spelling
row_is ports low row h =
    record { distance = (within_bounds 0 max_distance Value row.distance h.1.1.0.1).1; port = is_index ports row.port h.1.1.1.0.1 }

list_above : (version : Version) (low : ℕ) (list : ZoneList) → IsValue (zone_list_spelling version low) list → low ≤ list.start
unfolding zone_list_spelling
list_above version low list h = not_below low list.start h.0.1

list_zones : (version : Version) (low : ℕ) (list : ZoneList) → IsValue (zone_list_spelling version low) list → AreZones list.zones
unfolding zone_list_spelling
list_zones version low list h = zones_are version list.zones h.1.1.1.0

name_above : (low : ℕ) (name : NodeName) → IsValue (name_spelling low) name → low ≤ name.enumerator
unfolding name_spelling
name_above low name h = (counts_up low name.enumerator h.1.0.1).1

node_name_is : (low : ℕ) (name : NodeName) → IsValue (name_spelling low) name → IsNodeName name
unfolding name_spelling
node_name_is low name h =
    let socket = within_bounds 1 254 Value name.socket h.0.1 in
    record {
      socket_low = socket.0;
      socket_high = socket.1;
      enumerator = (counts_up low name.enumerator h.1.0.1).0;
      object = entity_is name.object h.1.1.0;
      kind = entity_is name.kind h.1.1.1.0;
    }

router_limits : (version : Version) (cables : ℕ) (router : Router) → IsValue (router_spelling version cables) router
    → IsWithinLimits cables router
unfolding router_spelling
router_limits version cables router h =
    let ports = length router.ports in
    record {
      ports = counted_few one max_ports (λ low. port_spelling version cables) (λ p. 0) router.ports h.0;
      rows = counted_few one max_rows (row_spelling ports) (λ r. r.start + 1) router.rows h.1.0;
      lists = counted_few one max_lists (zone_list_spelling version) (λ l. l.start + 1) router.lists h.1.1.0;
      rising = rise (λ low row. IsValue (row_spelling ports low) row) (λ r. r.start) (row_above ports) 0 router.rows (counted_each one max_rows
          (row_spelling ports) (λ r. r.start + 1) router.rows h.1.0);
      lists_rising = rise (λ low list. IsValue (zone_list_spelling version low) list) (λ l. l.start) (list_above version) 0 router.lists
          (counted_each one max_lists (zone_list_spelling version) (λ l. l.start + 1) router.lists h.1.1.0);
      each_port = every one max_ports (λ low. port_spelling version cables) (λ p. 0) (λ port. port.cable < cables)
          (λ low. port_cable version cables) router.ports h.0;
      each_known = every one max_ports (λ low. port_spelling version cables) (λ p. 0) (λ port. AreMappings port.mappings)
          (λ low. port_known version cables) router.ports h.0;
      each_row = every one max_rows (row_spelling ports) (λ r. r.start + 1) (IsRow ports) (row_is ports) router.rows h.1.0;
      each_list = every one max_lists (zone_list_spelling version) (λ l. l.start + 1) (λ list. AreZones list.zones) (list_zones version)
          router.lists h.1.1.0;
    }

node_limits : (version : Version) (cables : ℕ) (node : Node) → IsValue (node_spelling version cables) node → IsNodeWithinLimits cables node
unfolding node_spelling
node_limits version cables node h =
    let names = h.1.1.1.1.1.0 in
    record {
      cable = is_index cables node.cable h.0.1;
      zone = name_is node.zone h.1.1.1.0;
      names = counted_few one max_names name_spelling (λ n. n.enumerator + 1) node.names names;
      rising = rise (λ low name. IsValue (name_spelling low) name) (λ n. n.enumerator) name_above 0 node.names
          (counted_each one max_names name_spelling (λ n. n.enumerator + 1) node.names names);
      each_name = every one max_names name_spelling (λ n. n.enumerator + 1) IsNodeName node_name_is node.names names;
      known = mappings_are version node.mappings h.1.1.1.1.1.1.0;
    }

-- ---- images

-- the version with a version's number
pub version_back : (v : Version) → version_of (version_number v) ≡ v
version_back V1 = refl
version_back V2 = refl

pub front_cables : (version : Version) (cables : List Cable) → IsValue front_spelling (version, cables)
    → IsValue (counted one max_cables (λ low. cable_spelling version) (λ c. 0)) cables
unfolding front_spelling
front_cables version cables h =
    subst (λ (v : Version). IsValue (counted one max_cables (λ low. cable_spelling v) (λ c. 0)) cables) (version_back version) h.1.1.0

pub image_bounded : (i : Internet) → IsValue image_spelling i → IsBounded i
unfolding image_spelling
image_bounded i h =
    let cables = length i.cables in
    let first = front_cables i.version i.cables h.0 in
    record {
      cables = counted_few one max_cables (λ low. cable_spelling i.version) (λ c. 0) i.cables first;
      routers = counted_few one max_routers (λ low. router_spelling i.version cables) (λ r. 0) i.routers h.1.0;
      nodes = counted_few one max_nodes (λ low. node_spelling i.version cables) (λ n. 0) i.nodes h.1.1.0;
      each = every one max_routers (λ low. router_spelling i.version cables) (λ r. 0) (IsWithinLimits cables)
          (λ low. router_limits i.version cables) i.routers h.1.0;
      each_cable = every one max_cables (λ low. cable_spelling i.version) (λ c. 0) (λ cable. AreZones cable.zones)
          (λ low. cable_zones i.version) i.cables first;
      each_node = every one max_nodes (λ low. node_spelling i.version cables) (λ n. 0) (IsNodeWithinLimits cables)
          (λ low. node_limits i.version cables) i.nodes h.1.1.0;
    }
