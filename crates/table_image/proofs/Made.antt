-- Images that are made of parts.
use Rattle.std.proofs.Common.{◌≡◌, ℕ, ◌+◌, ◌-◌, Bool, true, ◌&&◌, nat_le, List, [], ◌∷◌, length, Err, refl, sym, ap, subst, ◌∙◌, arith, inl}
use Rattle.std.specs.List.{list_all}
use Rattle.std.proofs.lemmas.Bool.{le-leb}
use Rattle.std.proofs.lemmas.List.{append-nil}
use Rattle.at_base.specs.Address.{address_number}
use Rattle.at_base.specs.Grammar.{one, two}
use Rattle.at_base.specs.Spelling.{bytes_of, ListPasses, IsValue}
use Rattle.at_base.specs.FirstFault.{FirstFault}
use Rattle.table_image.specs.Internet.{Internet}
use Rattle.at_base.specs.Limits.{max_ports, max_rows, max_lists, max_names, max_cables, max_routers, max_nodes, max_mappings}
use Rattle.table_image.specs.Flaws.{Wrong, Here, Before, fault_of, faults, flaw_after}
use Rattle.table_image.specs.Short.{short_cable, short_list, short_port, short_router, short_node, is_short}
use Rattle.table_image.specs.Versions.{mapping_limit, zone_limit}
use Rattle.table_image.specs.Spelling.{zone_spelling, zones_spelling, cable_spelling, mapping_spelling, mappings_spelling, port_spelling}
use Rattle.table_image.specs.Spelling.{row_spelling}
use Rattle.table_image.specs.Spelling.{zone_list_spelling, router_spelling, name_spelling, node_spelling, image_spelling}
use Rattle.table_image.specs.Reading.{IsFirstFlaw}
use Rattle.table_image.specs.Checking.{Checks, reported}
use Rattle.table_image.specs.declared.flaw.Flaw.{Flaw}
use Rattle.table_image.specs.declared.cable.Cable.{Cable}
use Rattle.table_image.specs.declared.mapping.Mapping.{Mapping}
use Rattle.table_image.specs.declared.port.Port.{Port}
use Rattle.table_image.specs.declared.zone_list.ZoneList.{ZoneList}
use Rattle.table_image.specs.declared.router.Router.{Router}
use Rattle.table_image.specs.declared.node.Node.{Node}
use Rattle.table_image.specs.declared.version.Version.{Version}
use Rattle.table_image.specs.declared.version.Version.TheVariants.{V1, V2}
use Rattle.table_image.proofs.Bounds.{counted_few, counted_each, front_cables}
use Rattle.table_image.proofs.Flawed.{flawed_first}
use Rattle.table_image.proofs.Whole.{no_flaw}

-- ---- an image is within its limits

all_short : {B : Type 0} (passes : ℕ → B → Type 0) (next : B → ℕ) (short : B → Bool) → ((low : ℕ) (x : B) → passes low x → short x ≡ true)
    → (low : ℕ) (xs : List B) → ListPasses passes next low xs → list_all short xs ≡ true
all_short passes next short each_one low [] h = refl
all_short passes next short each_one low (x ∷ xs) h =
    ap (λ b. b && list_all short xs) (each_one low x h.0) ∙ all_short passes next short each_one (next x) xs h.1

zones_few : (version : Version) (zs : List (List ℕ)) → IsValue (zones_spelling version) zs → nat_le (length zs) (zone_limit version) ≡ true
unfolding zones_spelling
zones_few version zs h = le-leb _ _ (counted_few one (zone_limit version) (λ low. zone_spelling) (λ name. 0) zs h)

cable_few : (version : Version) (c : Cable) → IsValue (cable_spelling version) c → short_cable version c ≡ true
unfolding cable_spelling
cable_few version c h = zones_few version c.zones h.1.1.0

mappings_few : (version : Version) (ms : List Mapping) → IsValue (mappings_spelling version) ms
    → nat_le (length ms) (mapping_limit version) ≡ true
unfolding mappings_spelling
mappings_few V1 ms h = subst (λ (ms : List Mapping). nat_le (length ms) 0 ≡ true) h refl
mappings_few V2 ms h = le-leb _ _ (counted_few two max_mappings mapping_spelling (λ m. address_number m.address + 1) ms h)

port_few : (version : Version) (cables low : ℕ) (p : Port) → IsValue (port_spelling version cables) p → short_port version p ≡ true
unfolding port_spelling
port_few version cables low p h = mappings_few version p.mappings h.1.1.1.0

list_few : (version : Version) (low : ℕ) (l : ZoneList) → IsValue (zone_list_spelling version low) l → short_list version l ≡ true
unfolding zone_list_spelling
list_few version low l h = zones_few version l.zones h.1.1.1.0

router_few : (version : Version) (cables : ℕ) (x : Router) → IsValue (router_spelling version cables) x → short_router version x ≡ true
unfolding router_spelling
router_few version cables x h =
    let a : nat_le (length x.ports) max_ports ≡ true =
    le-leb _ _ (counted_few one max_ports (λ low. port_spelling version cables) (λ p. 0) x.ports h.0) in
    let b : nat_le (length x.rows) max_rows ≡ true =
    le-leb _ _ (counted_few one max_rows (row_spelling (length x.ports)) (λ r. r.start + 1) x.rows h.1.0) in
    let d : nat_le (length x.lists) max_lists ≡ true =
    le-leb _ _ (counted_few one max_lists (zone_list_spelling version) (λ l. l.start + 1) x.lists h.1.1.0) in
    let e : list_all (short_port version) x.ports ≡ true =
    all_short (λ low. IsValue (port_spelling version cables)) (λ p. 0) (short_port version) (port_few version cables) 0 x.ports
    (counted_each one max_ports (λ low. port_spelling version cables) (λ p. 0) x.ports h.0) in
    let f : list_all (short_list version) x.lists ≡ true =
    all_short (λ low. IsValue (zone_list_spelling version low)) (λ l. l.start + 1) (short_list version) (list_few version) 0 x.lists
    (counted_each one max_lists (zone_list_spelling version) (λ l. l.start + 1) x.lists h.1.1.0) in
    rw (a, b, d, e, f) refl

node_few : (version : Version) (cables : ℕ) (n : Node) → IsValue (node_spelling version cables) n → short_node version n ≡ true
unfolding node_spelling
node_few version cables n h =
    let a : nat_le (length n.names) max_names ≡ true =
    le-leb _ _ (counted_few one max_names name_spelling (λ n. n.enumerator + 1) n.names h.1.1.1.1.1.0) in
    rw (a, mappings_few version n.mappings h.1.1.1.1.1.1.0) refl

pub value_short : (i : Internet) → IsValue image_spelling i → is_short i ≡ true
unfolding image_spelling
value_short i h =
    let v = i.version in
    let cs = front_cables v i.cables h.0 in
    let n = length i.cables in
    let a : nat_le (length i.cables) max_cables ≡ true =
    le-leb _ _ (counted_few one max_cables (λ low. cable_spelling v) (λ c. 0) i.cables cs) in
    let b : nat_le (length i.routers) max_routers ≡ true =
    le-leb _ _ (counted_few one max_routers (λ low. router_spelling v n) (λ r. 0) i.routers h.1.0) in
    let d : nat_le (length i.nodes) max_nodes ≡ true =
    le-leb _ _ (counted_few one max_nodes (λ low. node_spelling v n) (λ n. 0) i.nodes h.1.1.0) in
    let e : list_all (short_cable v) i.cables ≡ true =
    all_short (λ low. IsValue (cable_spelling v)) (λ c. 0) (short_cable v) (λ low. cable_few v) 0 i.cables (counted_each one max_cables
    (λ low. cable_spelling v) (λ c. 0) i.cables cs) in
    let f : list_all (short_router v) i.routers ≡ true =
    all_short (λ low. IsValue (router_spelling v n)) (λ r. 0) (short_router v) (λ low. router_few v n) 0 i.routers (counted_each one max_routers
    (λ low. router_spelling v n) (λ r. 0) i.routers h.1.0) in
    let g : list_all (short_node v) i.nodes ≡ true =
    all_short (λ low. IsValue (node_spelling v n)) (λ n. 0) (short_node v) (λ low. node_few v n) 0 i.nodes (counted_each one max_nodes
    (λ low. node_spelling v n) (λ n. 0) i.nodes h.1.1.0) in
    rw (a, b, d, e, f, g) refl

-- ---- parts that don't fit have the flaw of their bytes

reported_there : (left gone : ℕ) (bytes : List ℕ) (w : Wrong) → length bytes ≡ gone + left
    → reported gone w ≡ flaw_after (length bytes) (fault_of left w)
reported_there left gone bytes (Here cause) e =
    let same : gone ≡ length bytes - left = omega arith in ap (λ (n : ℕ). record { place = n; cause = cause }) same
reported_there left gone bytes (Before n cause) e =
    let same : gone - n ≡ length bytes - (n + left) = omega arith in ap (λ (n : ℕ). record { place = n; cause = cause }) same

-- the flaw of a check is the first flaw of the bytes
pub checked_first : (i : Internet) (f : Flaw) → Checks image_spelling i 0 (Err f) → IsFirstFlaw (bytes_of image_spelling i) f
unfolding IsFirstFlaw
checked_first i f (q, w, h, is) =
    let found = flawed_first image_spelling i 0 q w [] h in
    let same = append-nil (bytes_of image_spelling i) in
    let first : FirstFault faults image_spelling (bytes_of image_spelling i) (fault_of found.left w) =
    subst (λ (b : List ℕ). FirstFault faults image_spelling b (fault_of found.left w)) same found.first in
    let all : length (bytes_of image_spelling i) ≡ found.gone + found.left = ap (λ (b : List ℕ). length b) (sym same) ∙ found.all in
    let gone : q ≡ found.gone = found.is_at ∙ omega arith in (
      fault_of found.left w,
      inl first,
      is ∙ ap (λ (n : ℕ). reported n w) gone ∙ reported_there found.left found.gone (bytes_of image_spelling i) w all,
    )

-- parts that fit have no flaw
pub fits_no_flaw : (i : Internet) (f : Flaw) → IsValue image_spelling i → IsFirstFlaw (bytes_of image_spelling i) f → ⊥
fits_no_flaw i f value h = no_flaw (bytes_of image_spelling i) i f (value, refl) h
