-- Parts whose numbers fit, whose lists are within their limits and whose items rise are valid parts of an image.
use Rattle.std.proofs.Common.{◌≡◌, ℕ, ◌+◌, ◌*◌, ◌^◌, ◌<◌, ◌≤◌, List, [], ◌∷◌, length, Ok, refl, arith, true}
use Rattle.std.specs.List.{AllByRecursion as Each}
use Rattle.at_base.specs.Address.{address_number}
use Rattle.at_base.specs.Grammar.{Grammar, Size, one, two}
use Rattle.at_base.specs.Limits.{max_cables, max_lists, max_mappings, max_names, max_nodes, max_ports, max_routers, max_rows}
use Rattle.at_base.specs.Spelling.{IsValue, ListPasses, bytes_of, list_bytes}
use Rattle.at_base.specs.Text.{IsEntity, IsName, is_name}
use Rattle.table_image.proofs.Checked.{FitsMapping, FitsPort, FitsRow, counted_checks, entity_passes, mapping_passes, name_length}
use Rattle.table_image.proofs.Checked.{row_passes, text_value}
use Rattle.table_image.proofs.CheckedImages.{image_checks}
use Rattle.table_image.proofs.CheckedParts.{FitsName, FitsNode, cable_checks, list_checks, name_kind, node_checks, none_checks, port_checks}
use Rattle.table_image.proofs.CheckedParts.{router_checks}
use Rattle.table_image.specs.Checking.{Checks}
use Rattle.table_image.specs.Counts.{count_len}
use Rattle.table_image.specs.Flaws.{Wrong}
use Rattle.table_image.specs.Internet.{Internet}
use Rattle.table_image.specs.Limits.{max_distance}
use Rattle.table_image.specs.Spelling.{cable_spelling, counted, image_spelling, mapping_spelling, mappings_spelling, name_spelling}
use Rattle.table_image.specs.Spelling.{node_spelling, own_router_spelling, port_spelling, router_spelling}
use Rattle.table_image.specs.Spelling.{row_spelling, zone_list_spelling, zone_spelling, zones_spelling}
use Rattle.table_image.specs.Versions.{mapping_limit, zone_limit}
use Rattle.table_image.specs.declared.cable.Cable.{Cable}
use Rattle.table_image.specs.declared.mapping.Mapping.{Mapping}
use Rattle.table_image.specs.declared.node.Node.{Node}
use Rattle.table_image.specs.declared.node.NodeName.{NodeName}
use Rattle.table_image.specs.declared.port.Port.{Port}
use Rattle.table_image.specs.declared.router.Router.{Router}
use Rattle.table_image.specs.declared.row.Row.{Row}
use Rattle.table_image.specs.declared.version.Version.{Version}
use Rattle.table_image.specs.declared.version.Version.TheVariants.{V1, V2}
use Rattle.table_image.specs.declared.zone_list.ZoneList.{ZoneList}

-- ---- Values, checked

-- The end of the bytes of a value that begin at an offset.
abbrev ends : {A : Type 0} → Grammar Wrong true A → A → ℕ → ℕ
ends g y at = at + length (bytes_of g y)

-- A valid value passes its check.
checked : {A : Type 0} (g : Grammar Wrong true A) (y : A) (at : ℕ) → IsValue g y → Checks g y at (Ok (ends g y at))
checked g y at h = (h, refl)

-- Items that pass are a valid list with a count.
pub counted_value : {B : Type 0} (size : Size) (limit : ℕ) (item : ℕ → Grammar Wrong true B) (next : B → ℕ) (xs : List B)
    → length xs ≤ limit → limit < 2 ^ (8 * count_len size)
    → ListPasses (λ low. IsValue (item low)) next 0 xs → IsValue (counted size limit item next) xs
counted_value size limit item next xs few small h =
    (counted_checks size limit item next xs 0 (Ok (0 + count_len size + length (list_bytes (λ low. bytes_of (item low)) next 0 xs))) few small
    (h, refl)).0

-- Valid items of which none depends on the one before it pass.
pub alike_pass : {B : Type 0} (g : Grammar Wrong true B) (low : ℕ) (xs : List B) → Each (λ x. IsValue g x) xs
    → ListPasses (λ low. IsValue g) (λ x. 0) low xs
alike_pass g low [] h = tt
alike_pass g low (x ∷ xs) h = (h.0, alike_pass g 0 xs h.1)

-- ---- Zones and cables

names_value : (zones : List (List ℕ)) → Each IsName zones → Each (λ z. IsValue zone_spelling z) zones
names_value [] h = tt
names_value (z ∷ zs) h = let len = name_length z h.0 in (text_value is_name z h.0 len.0 len.1, names_value zs h.1)

limit_fits : (v : Version) → zone_limit v < 2 ^ (8 * count_len one)
limit_fits V1 = omega arith
limit_fits V2 = omega arith

pub zones_value : (v : Version) (zones : List (List ℕ)) → length zones ≤ zone_limit v → Each IsName zones
    → IsValue (zones_spelling v) zones
unfolding zones_spelling
zones_value v zones few h =
    counted_value one (zone_limit v) (λ low. zone_spelling) (λ name. 0) zones few (limit_fits v)
    (alike_pass zone_spelling 0 zones (names_value zones h))

pub cable_value : (v : Version) (c : Cable) → c.start < 2 ^ 16 → c.end < 2 ^ 16 → length c.zones ≤ zone_limit v → Each IsName c.zones
    → IsValue (cable_spelling v) c
cable_value v c start end few names =
    (cable_checks v c 0 (Ok (ends (zones_spelling v) c.zones (0 + 4))) start end
    (checked (zones_spelling v) c.zones (0 + 4) (zones_value v c.zones few names))).0

-- ---- Mappings and ports

pub mapping_value : (low : ℕ) (m : Mapping) → FitsMapping m → low ≤ address_number m.address → IsValue (mapping_spelling low) m
mapping_value low m fits rise = (mapping_passes low m 0 fits rise).0

-- Mappings within the limit of the version that pass are valid.
pub mappings_value : (v : Version) (known : List Mapping) → length known ≤ mapping_limit v
    → ListPasses (λ low. IsValue (mapping_spelling low)) (λ m. address_number m.address + 1) 0 known → IsValue (mappings_spelling v) known
unfolding mappings_spelling
mappings_value V1 known few h = (none_checks known 0 few).0
mappings_value V2 known few h =
    counted_value two max_mappings mapping_spelling (λ m. address_number m.address + 1) known few (omega arith) h

pub port_value : (v : Version) (count : ℕ) (p : Port) → FitsPort p → p.cable < count → IsValue (mappings_spelling v) p.mappings
    → IsValue (port_spelling v count) p
port_value v count p fits there known =
    (port_checks v count p 0 (Ok (ends (mappings_spelling v) p.mappings (0 + 10))) fits there
    (checked (mappings_spelling v) p.mappings (0 + 10) known)).0

-- ---- Rows and zone lists

pub row_value : (ports low : ℕ) (r : Row) → FitsRow r → low ≤ r.start → r.distance ≤ max_distance → r.port < ports
    → IsValue (row_spelling ports low) r
row_value ports low r fits rise near there = (row_passes ports low r 0 fits rise near there).0

pub list_value : (v : Version) (low : ℕ) (l : ZoneList) → l.start < 2 ^ 16 → l.end < 2 ^ 16 → low ≤ l.start
    → length l.zones ≤ zone_limit v → Each IsName l.zones → IsValue (zone_list_spelling v low) l
list_value v low l start end rise few names =
    (list_checks v low l 0 (Ok (ends (zones_spelling v) l.zones (0 + 5))) start end rise
    (checked (zones_spelling v) l.zones (0 + 5) (zones_value v l.zones few names))).0

-- ---- Routers

-- A router whose lists are within their limits and whose items pass is valid.
pub router_value : (v : Version) (count : ℕ) (x : Router) → length x.ports ≤ max_ports → length x.rows ≤ max_rows
    → length x.lists ≤ max_lists → Each (λ p. IsValue (port_spelling v count) p) x.ports
    → ListPasses (λ low. IsValue (row_spelling (length x.ports) low)) (λ r. r.start + 1) 0 x.rows
    → ListPasses (λ low. IsValue (zone_list_spelling v low)) (λ l. l.start + 1) 0 x.lists → IsValue (router_spelling v count) x
router_value v count x few_p few_r few_l ports rows lists =
    let gp = counted one max_ports (λ low. port_spelling v count) (λ p. 0) in
    let gr = counted one max_rows (row_spelling (length x.ports)) (λ r. r.start + 1) in
    let gl = counted one max_lists (zone_list_spelling v) (λ l. l.start + 1) in
    let a = ends gp x.ports 0 in
    let b = ends gr x.rows a in
    let c = ends gl x.lists b in
    (router_checks v count x 0 a b (Ok c) (
      counted_value one max_ports (λ low. port_spelling v count) (λ p. 0) x.ports few_p (omega arith)
          (alike_pass (port_spelling v count) 0 x.ports ports),
      refl,
    ) (
      counted_value one max_rows (row_spelling (length x.ports)) (λ r. r.start + 1) x.rows few_r (omega arith) rows,
      refl,
    ) (
      counted_value one max_lists (zone_list_spelling v) (λ l. l.start + 1) x.lists few_l (omega arith) lists,
      refl,
    )).0

-- ---- Nodes

pub name_value : (low : ℕ) (n : NodeName) → FitsName n → 1 ≤ n.socket → n.socket ≤ 254 → 1 ≤ n.enumerator → low ≤ n.enumerator
    → IsEntity n.object → IsEntity n.kind → IsValue (name_spelling low) n
name_value low n fits some few first rise object kind =
    let o = 0 + 2 + 1 + length n.object in
    let k = o + 1 + length n.kind in
    (name_kind low n 0 o (Ok k) fits some few first rise
    (entity_passes n.object (0 + 2) o object.test object.some object.few refl)
    (entity_passes n.kind o k kind.test kind.some kind.few refl)).0

-- A node whose lists are within their limits and whose parts are valid is valid.
pub node_value : (v : Version) (count : ℕ) (x : Node) → FitsNode x → x.cable < count → IsName x.zone
    → IsValue own_router_spelling x.router → length x.names ≤ max_names
    → ListPasses (λ low. IsValue (name_spelling low)) (λ n. n.enumerator + 1) 0 x.names
    → IsValue (mappings_spelling v) x.mappings → IsValue (node_spelling v count) x
node_value v count x fits there zone router few names known =
    let len = name_length x.zone zone in
    let gn = counted one max_names name_spelling (λ n. n.enumerator + 1) in
    let named = counted_value one max_names name_spelling (λ n. n.enumerator + 1) x.names few (omega arith) names in
    let a = ends zone_spelling x.zone (0 + 10) in
    let b = ends own_router_spelling x.router a in
    let c = ends gn x.names b in
    let d = ends (mappings_spelling v) x.mappings c in
    (node_checks v count x 0 a b c (Ok d) fits there (text_value is_name x.zone zone len.0 len.1, refl) (router, refl) (named, refl)
    (known, refl)).0

-- ---- Images

-- Valid parts, of which there are at most 200 of each kind, are a valid image.
pub image_value : (i : Internet) → length i.cables ≤ max_cables → length i.routers ≤ max_routers → length i.nodes ≤ max_nodes
    → Each (λ c. IsValue (cable_spelling i.version) c) i.cables
    → Each (λ r. IsValue (router_spelling i.version (length i.cables)) r) i.routers
    → Each (λ n. IsValue (node_spelling i.version (length i.cables)) n) i.nodes → IsValue image_spelling i
image_value i few_c few_r few_n cables routers nodes =
    let v = i.version in
    let count = length i.cables in
    let gc = counted one max_cables (λ low. cable_spelling v) (λ c. 0) in
    let gr = counted one max_routers (λ low. router_spelling v count) (λ r. 0) in
    let gn = counted one max_nodes (λ low. node_spelling v count) (λ n. 0) in
    let a = ends gc i.cables 5 in
    let b = ends gr i.routers a in
    let c = ends gn i.nodes b in
    (image_checks i a b (Ok c) (
      counted_value one max_cables (λ low. cable_spelling v) (λ c. 0) i.cables few_c (omega arith)
          (alike_pass (cable_spelling v) 0 i.cables cables),
      refl,
    ) (
      counted_value one max_routers (λ low. router_spelling v count) (λ r. 0) i.routers few_r (omega arith)
          (alike_pass (router_spelling v count) 0 i.routers routers),
      refl,
    ) (
      counted_value one max_nodes (λ low. node_spelling v count) (λ n. 0) i.nodes few_n (omega arith)
          (alike_pass (node_spelling v count) 0 i.nodes nodes),
      refl,
    )).0
