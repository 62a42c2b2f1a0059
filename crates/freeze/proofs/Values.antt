-- The parts for the contents of routers and nodes are valid parts of an image.
use Rattle.std.proofs.Common.{◌≡◌, ℕ, suc, ◌+◌, ◌<◌, ◌≤◌, false, true, ◌&&◌, List, [], ◌∷◌, length, map}
use Rattle.std.proofs.Common.{refl, sym, ap, subst, arith, nat_lt, nat_le, leb-true, ltb-true, IsTrue, Option, slice_get, drop}
use Rattle.std.specs.List.{list_all, All, AllByRecursion as Each}
use Rattle.std.proofs.lemmas.Bool.{and_parts}
use Rattle.std.proofs.lemmas.Bool.Decides.{nat_tests}
use Rattle.std.proofs.Math.Nat.{le-max_left, le-max_right}
use Rattle.aarp.specs.Choosing.{Choice}
use Rattle.aarp.specs.Mapping.{AddressesRise, FitsMapping as FitsKnown, Mappings}
use Rattle.at_base.specs.Address.{address_number}
use Rattle.at_base.specs.Grammar.{one}
use Rattle.at_base.specs.Spelling.{IsValue, ListPasses}
use Rattle.at_base.specs.Text.{IsName}
use Rattle.at_base.specs.declared.address.Addr.{Addr}
use Rattle.at_base.specs.declared.address.Hw.{Hw}
use Rattle.end_node.specs.Holding.{NodeHolding}
use Rattle.freeze.specs.Fits.{FitsCable, FitsList}
use Rattle.freeze.specs.Freezing.{frozen_list, frozen_mapping, frozen_mappings, frozen_name, frozen_node, frozen_port, frozen_ports}
use Rattle.freeze.specs.Freezing.{frozen_router, frozen_row}
use Rattle.freeze.specs.Frozen.{is_long}
use Rattle.freeze.specs.Valid.{HaveMappings, IsNotInV1}
use Rattle.nbp.specs.Registered.{IsNamed, IsNames, are_above as names_above}
use Rattle.nbp.specs.declared.names.Named.{Named}
use Rattle.router.specs.Holding.{Holding}
use Rattle.rtmp.specs.Routes.{IsRouteMap, are_above as rows_above, is_row}
use Rattle.rtmp.specs.declared.row.Row.{Row}
use Rattle.image_parts.proofs.Values.{cable_value as valid_cable, mapping_value, mappings_value as valid_mappings, name_value}
use Rattle.image_parts.proofs.Values.{list_value, node_value as valid_node, port_value, router_value as valid_router, row_value}
use Rattle.table_image.proofs.Checked.{FitsMapping, FitsPort, FitsRow}
use Rattle.table_image.proofs.CheckedParts.{FitsName, FitsNode}
use Rattle.at_base.specs.Limits.{max_mappings, max_zones}
use Rattle.table_image.specs.Spelling.{cable_spelling, mapping_spelling, mappings_spelling, name_spelling, node_spelling}
use Rattle.table_image.specs.Spelling.{own_router_spelling, port_spelling, router_spelling}
use Rattle.table_image.specs.Spelling.{row_spelling, zone_list_spelling}
use Rattle.table_image.specs.Versions.{zone_limit}
use Rattle.table_image.specs.declared.cable.Cable.{Cable}
use Rattle.table_image.specs.declared.version.Version.{Version}
use Rattle.table_image.specs.declared.version.Version.TheVariants.{V1, V2}
use Rattle.zip_zones.proofs.Tables.{known_ends}
use Rattle.zip_zones.specs.Zones.{IsZoneMap, Known, are_above as lists_above, are_distinct, is_known, most_names}
use Rattle.at_base.specs.Range.{is_range}

-- ---- Cables

pub cable_value : (v : Version) (c : Cable) → length c.zones ≤ zone_limit v → FitsCable c → IsValue (cable_spelling v) c
cable_value v c few fits = valid_cable v c fits.start fits.end few fits.zones

-- ---- Mappings

mappings_pass : (low : ℕ) (known : List (Addr × Hw)) → AddressesRise low known → Each FitsKnown known
    → ListPasses (λ low. IsValue (mapping_spelling low)) (λ m. address_number m.address + 1) low (map frozen_mapping known)
mappings_pass low [] rise fits = tt
mappings_pass low (m ∷ ms) rise fits =
    let fit : FitsMapping (frozen_mapping m) = record { net = fits.0.net; node = fits.0.node; hardware = fits.0.hardware } in (
      mapping_value low (frozen_mapping m) fit rise.0,
      mappings_pass (address_number m.0 + 1) ms rise.1 fits.1,
    )

-- Rising mappings are valid mappings of an image of version 2.
pub mappings_value : (known : List (Addr × Hw)) → length known ≤ max_mappings → AddressesRise 0 known → Each FitsKnown known
    → IsValue (mappings_spelling V2) (map frozen_mapping known)
mappings_value known few rise fits =
    valid_mappings V2 (map frozen_mapping known) (subst (λ n. n ≤ max_mappings) (sym (length-map known)) few)
    (mappings_pass 0 known rise fits)
  where
    length-map : (xs : List (Addr × Hw)) → length (map frozen_mapping xs) ≡ length xs
    length-map [] = refl
    length-map (x ∷ xs) = ap suc (length-map xs)

-- No mappings are valid mappings of an image.
pub no_mappings_value : (v : Version) → IsValue (mappings_spelling v) []
no_mappings_value V1 = valid_mappings V1 [] (omega arith) tt
no_mappings_value V2 = valid_mappings V2 [] (omega arith) tt

-- ---- Ports

ports_values : (v : Version) (count : ℕ) (cables : List ℕ) (choices : List Choice) (seats : List Mappings)
    → IsTrue (list_all (λ c. nat_lt c count) cables) → Each FitsPort (frozen_ports v cables choices seats)
    → HaveMappings v (frozen_ports v cables choices seats)
    → Each (λ p. IsValue (port_spelling v count) p) (frozen_ports v cables choices seats)
ports_values v count [] choices seats below fits known = tt
ports_values v count (c ∷ cs) [] seats below fits known = tt
ports_values v count (c ∷ cs) (x ∷ xs) seats below fits known =
    let parts = and_parts (nat_lt c count) (list_all (λ c. nat_lt c count) cs) below in
    let port = frozen_port v c x (slice_get seats 0) in (
      port_value v count port fits.0 (ltb-true c count parts.0) known.0,
      ports_values v count cs xs (drop 1 seats) parts.1 fits.1 known.1,
    )

-- There are as many ports as cables, if each port has a cable.
ports_length : (v : Version) (cables : List ℕ) (choices : List Choice) (seats : List Mappings) → length cables ≡ length choices
    → length (frozen_ports v cables choices seats) ≡ length choices
ports_length v [] [] seats e = refl
ports_length v [] (x ∷ xs) seats e = absurd cc
ports_length v (c ∷ cs) [] seats e = refl
ports_length v (c ∷ cs) (x ∷ xs) seats e = ap suc (ports_length v cs xs (drop 1 seats) cc)

-- ---- Rows

row_ends : (r : Row) → is_row r ≡ true → (r.range.start ≤ r.range.end) × (r.distance ≤ 31)
row_ends r h =
    let parts = and_parts (is_range r.range.start r.range.end) (nat_le r.distance 31) h in
    let low = and_parts (nat_le 1 r.range.start && nat_le r.range.start r.range.end) (nat_le r.range.end 65279) parts.0 in
    let rise = and_parts (nat_le 1 r.range.start) (nat_le r.range.start r.range.end) low.0 in
    (leb-true r.range.start r.range.end rise.1, leb-true r.distance 31 parts.1)

rows_pass : (ports low above : ℕ) (rows : List Row) → low ≤ above + 1 → rows_above above rows ≡ true → list_all is_row rows ≡ true
    → IsTrue (list_all (λ r. nat_lt r.port ports) rows) → Each FitsRow (map frozen_row rows)
    → ListPasses (λ low. IsValue (row_spelling ports low)) (λ r. r.start + 1) low (map frozen_row rows)
rows_pass ports low above [] le rise each there fits = tt
rows_pass ports low above (r ∷ rs) le rise each there fits =
    let order = and_parts (nat_lt above r.range.start) (rows_above r.range.end rs) rise in
    let first = ltb-true above r.range.start order.0 in
    let good = and_parts (is_row r) (list_all is_row rs) each in
    let bounds = row_ends r good.0 in
    let seated = and_parts (nat_lt r.port ports) (list_all (λ r. nat_lt r.port ports) rs) there in (
      row_value ports low (frozen_row r) fits.0 (omega (arith, le, first)) bounds.1 (ltb-true r.port ports seated.0),
      rows_pass ports (r.range.start + 1) r.range.end rs (omega (arith, bounds.0)) order.1 good.1 seated.1 fits.1,
    )

-- ---- Zone lists

few_names : (k : Known) → is_known k ≡ true → length k.names ≤ max_zones
few_names k h =
    let a = and_parts (is_range k.range.start k.range.end && nat_le k.total max_zones && nat_le (length k.names) k.total)
    (are_distinct k.names) h in
    let b = and_parts (is_range k.range.start k.range.end && nat_le k.total max_zones) (nat_le (length k.names) k.total) a.0 in
    let c = and_parts (is_range k.range.start k.range.end) (nat_le k.total max_zones) b.0 in
    let total = leb-true k.total max_zones c.1 in
    let names = leb-true (length k.names) k.total b.1 in
    omega (arith, total, names)

at_most : (a b : ℕ) → nat_lt a b ≡ false → b ≤ a
at_most a b not_less = grind (arith, nat_tests)

-- Each list has at most as many names as the longest.
short_by : (most : ℕ) (lists : List Known) → most_names lists ≤ most → Each (λ k. length k.names ≤ most) lists
short_by most [] few = tt
short_by most (k ∷ ks) few =
    let first = le-max_left (length k.names) (most_names ks) in
    let others = le-max_right (length k.names) (most_names ks) in
    (omega (arith, few, first), short_by most ks (omega (arith, few, others)))

-- The lists of a table have at most as many names as an image of the version allows.
short_lists : (v : Version) (lists : List Known) → list_all is_known lists ≡ true → IsNotInV1 v (is_long (most_names lists))
    → Each (λ k. length k.names ≤ zone_limit v) lists
short_lists V1 lists each short = short_by (zone_limit V1) lists (at_most (zone_limit V1) (most_names lists) short)
short_lists V2 [] each short = tt
short_lists V2 (k ∷ ks) each short =
    let good = and_parts (is_known k) (list_all is_known ks) each in
    (few_names k good.0, short_lists V2 ks good.1 tt)

lists_pass : (v : Version) (low above : ℕ) (lists : List Known) → low ≤ above + 1 → lists_above above lists ≡ true
    → list_all is_known lists ≡ true → Each (λ k. length k.names ≤ zone_limit v) lists → Each FitsList (map frozen_list lists)
    → ListPasses (λ low. IsValue (zone_list_spelling v low)) (λ l. l.start + 1) low (map frozen_list lists)
lists_pass v low above [] le rise each few fits = tt
lists_pass v low above (k ∷ ks) le rise each few fits =
    let order = and_parts (nat_lt above k.range.start) (lists_above k.range.end ks) rise in
    let first = ltb-true above k.range.start order.0 in
    let good = and_parts (is_known k) (list_all is_known ks) each in
    let bounds = known_ends k good.0 in (
      list_value v low (frozen_list k) fits.0.start fits.0.end (omega (arith, le, first)) few.0 fits.0.zones,
      lists_pass v (k.range.start + 1) k.range.end ks (omega (arith, bounds.1)) order.1 good.1 few.1 fits.1,
    )

-- ---- Routers

-- A router's contents are a valid router of an image, if its ports are on cables that exist.
pub router_value : (v : Version) (count : ℕ) (cables : List ℕ) (h : Holding) (seats : List Mappings) → length h.ports ≤ 16
    → IsTrue (list_all (λ r. nat_lt r.port (length h.ports)) h.routes) → IsRouteMap h.routes → IsZoneMap h.zones
    → IsNotInV1 v (is_long (most_names h.zones)) → Each FitsPort (frozen_ports v cables h.ports seats)
    → HaveMappings v (frozen_ports v cables h.ports seats) → Each FitsRow (map frozen_row h.routes)
    → Each FitsList (map frozen_list h.zones) → IsTrue (list_all (λ c. nat_lt c count) cables) → length cables ≡ length h.ports
    → IsValue (router_spelling v count) (frozen_router v cables h seats)
router_value v count cables h seats few seated routes zones short fits_ports known fits_rows fits_lists below same =
    let many = ports_length v cables h.ports seats same in
    let x = frozen_router v cables h seats in
    let there = subst (λ n. IsTrue (list_all (λ r. nat_lt r.port n) h.routes)) (sym many) seated in
    valid_router v count x (subst (λ n. n ≤ 16) (sym many) few)
    (subst (λ n. n ≤ 200) (sym (length-map frozen_row h.routes)) routes.few)
    (subst (λ n. n ≤ 200) (sym (length-map frozen_list h.zones)) zones.few)
    (ports_values v count cables h.ports seats below fits_ports known)
    (rows_pass (length x.ports) 0 0 h.routes (omega arith) routes.apart routes.each there fits_rows)
    (lists_pass v 0 0 h.zones (omega arith) zones.apart zones.each (short_lists v h.zones zones.each short) fits_lists)
  where
    length-map : {X Y : Type 0} (f : X → Y) (xs : List X) → length (map f xs) ≡ length xs
    length-map f [] = refl
    length-map f (y ∷ ys) = ap suc (length-map f ys)

-- ---- Nodes

named_head : (n : Named) (names : List Named) → All IsNamed (n ∷ names) → IsNamed n
named_head n names each = each 0 n (omega arith)

named_tail : (n : Named) (names : List Named) → All IsNamed (n ∷ names) → All IsNamed names
named_tail n names each = λ k d lt. each (suc k) d (omega arith)

names_pass : (low above : ℕ) (names : List Named) → low ≤ above + 1 → IsTrue (names_above above names) → All IsNamed names
    → Each FitsName (map frozen_name names)
    → ListPasses (λ low. IsValue (name_spelling low)) (λ n. n.enumerator + 1) low (map frozen_name names)
names_pass low above [] le rise each small = tt
names_pass low above (n ∷ ns) le rise each small =
    let order = and_parts (nat_lt above n.enumerator) (names_above n.enumerator ns) rise in
    let first = ltb-true above n.enumerator order.0 in (
      (let h = named_head n ns each in
          name_value low (frozen_name n) small.0 h.socket_low h.socket_high h.enumerator (omega (arith, le, first)) h.object h.kind),
      names_pass (n.enumerator + 1) n.enumerator ns (omega arith) order.1 (named_tail n ns each) small.1,
    )

-- A node's contents are a valid node of an image, if its port is on a cable that exists.
pub node_value : (v : Version) (count cable : ℕ) (h : NodeHolding) (seat : Option Mappings) → cable < count
    → FitsNode (frozen_node v cable h seat) → IsName h.zone → IsValue own_router_spelling h.router → IsNames h.names
    → Each FitsName (map frozen_name h.names) → IsValue (mappings_spelling v) (frozen_mappings v seat)
    → IsValue (node_spelling v count) (frozen_node v cable h seat)
node_value v count cable h seat there fits zone router names small known =
    let x = frozen_node v cable h seat in
    valid_node v count x fits there zone router (subst (λ n. n ≤ 32) (sym (length-map h.names)) names.few)
    (names_pass 0 0 h.names (omega arith) names.rising names.each small) known
  where
    length-map : (xs : List Named) → length (map frozen_name xs) ≡ length xs
    length-map [] = refl
    length-map (y ∷ ys) = ap suc (length-map ys)
