-- Each cable, router and node that is read is valid in an image.
use Rattle.std.proofs.Common.{◌≡◌, ℕ, ◌<◌, ◌≤◌, List, [], ◌∷◌, length, arith, subst, codes, refl}
use Rattle.std.specs.Prelude.{Option, Some, None}
use Rattle.std.specs.List.{AllByRecursion as Each}
use Rattle.toml.specs.Data.{Data, Members}
use Rattle.at_base.specs.Limits.{max_cables, max_ports}
use Rattle.at_base.specs.Spelling.{IsValue}
use Rattle.at_base.specs.Text.{IsName}
use Rattle.at_base.specs.declared.address.Addr.{Addr}
use Rattle.at_base.specs.declared.address.Hw.{Hw}
use Rattle.file_entries.proofs.Bounds.{Fits, address_is, hardware_is}
use Rattle.file_entries.proofs.Given.{few_at_hold, given_is, some_is}
use Rattle.file_entries.specs.Entries.{at, at_or, entry, few_at}
use Rattle.file_entries.specs.Values.{any_address, hardware}
use Rattle.image_parts.proofs.Values.{cable_value, node_value, port_value, router_value}
use Rattle.table_image.proofs.Checked.{address_value}
use Rattle.table_image.specs.Spelling.{cable_spelling, node_spelling, own_router_spelling, port_spelling, router_spelling}
use Rattle.table_image.specs.declared.cable.Cable.{Cable}
use Rattle.table_image.specs.declared.node.Node.{Node}
use Rattle.table_image.specs.declared.port.Port.{Port}
use Rattle.table_image.specs.declared.router.Router.{Router}
use Rattle.table_image.specs.declared.version.Version.{Version}
use Rattle.tables_file.proofs.Lists.{AreEnds, AreZones, FitsCable, at_is, at_or_is, ends_are, lists_are, mappings_are, names_are, place_is}
use Rattle.tables_file.proofs.Lists.{rows_are, zone_is, zones_are}
use Rattle.tables_file.specs.Cables.{cable_of, zones}
use Rattle.tables_file.specs.Marks.{made_up}
use Rattle.tables_file.specs.Nodes.{names, node_keys, node_of, own_router, placed}
use Rattle.tables_file.specs.Routers.{lists, mappings, port_of, router_of, rows}
use Rattle.tables_file.specs.Values.{ends, place, zone}
use Rattle.tables_file.specs.declared.node.Seat.{Seat}

-- ---- Cables

pub cable_fits : (v : Version) (d : Data) (c : Cable) → cable_of v d ≡ Some c → FitsCable v c
cable_fits v d c e =
    let ms = given_is (entry (codes "range" ∷ codes "zones" ∷ []) d) _ c e in
    let range = given_is (at (codes "range") ends ms.0) _ c ms.2 in
    let names = given_is (at (codes "zones") (zones v) ms.0) _ c range.2 in
    subst (FitsCable v) (some_is names.2) (
      at_is (codes "range") ends AreEnds ends_are ms.0 range.0 range.1,
      at_is (codes "zones") (zones v) (AreZones v) (zones_are v) ms.0 names.0 names.1,
    )

pub cables_are : (v : Version) (cs : List Cable) → Each (FitsCable v) cs → Each (λ c. IsValue (cable_spelling v) c) cs
cables_are v [] fits = tt
cables_are v (c ∷ cs) fits =
    let within = fits.0.0 in
    let names = fits.0.1 in
    (cable_value v c (omega (arith, within)) (omega (arith, within)) names.0 names.1, cables_are v cs fits.1)

-- ---- Routers

-- A hardware address has six bytes.
abbrev HasSix : Hw → Type 0
HasSix h = length h.0 ≡ 6

port_is : (v : Version) (count mark router k : ℕ) (d : Data) (p : Port) → port_of v count mark router k d ≡ Some p
    → IsValue (port_spelling v count) p
port_is v count mark router k d p e =
    let ms = given_is (entry (codes "cable" ∷ codes "address" ∷ codes "hardware" ∷ codes "mapping" ∷ []) d) _ p e in
    let cable = given_is (at (codes "cable") (place count) ms.0) _ p ms.2 in
    let a = given_is (at (codes "address") any_address ms.0) _ p cable.2 in
    let h = given_is (at_or (made_up mark 0 router k) (codes "hardware") hardware ms.0) _ p a.2 in
    let known = given_is (mappings v ms.0) _ p h.2 in
    let there = at_is (codes "cable") (place count) _ (place_is count) ms.0 cable.0 cable.1 in
    let fits = at_is (codes "address") any_address Fits address_is ms.0 a.0 a.1 in
    let six = at_or_is (made_up mark 0 router k) (codes "hardware") hardware HasSix refl hardware_is ms.0 h.0 h.1 in
    subst (λ (x : Port). IsValue (port_spelling v count) x) (some_is known.2)
    (port_value v count (record { cable = cable.0; address = a.0; hardware = h.0; mappings = known.0 })
    (record { cable = omega (arith, there); net = omega (arith, fits); node = omega (arith, fits); hardware = six }) there.0
    (mappings_are v ms.0 known.0 known.1))

pub router_is : (v : Version) (cables : List Cable) (mark k : ℕ) (d : Data) (r : Router) → Each (FitsCable v) cables
    → length cables ≤ max_cables → router_of v cables mark k d ≡ Some r → IsValue (router_spelling v (length cables)) r
router_is v cables mark k d r fits few e =
    let count = length cables in
    let ms = given_is (entry (codes "port" ∷ codes "row" ∷ codes "list" ∷ []) d) _ r e in
    let ports = given_is (few_at max_ports (codes "port") (port_of v count mark k) ms.0) _ r ms.2 in
    let table = given_is (rows (length ports.0) ms.0) _ r ports.2 in
    let known = given_is (lists v cables ms.0) _ r table.2 in
    let each = few_at_hold max_ports (codes "port") (port_of v count mark k) (λ p. IsValue (port_spelling v count) p)
    (port_is v count mark k) ms.0 ports.0 ports.1 in
    let routes = rows_are (length ports.0) ms.0 table.0 table.1 in
    let zone_lists = lists_are v cables ms.0 known.0 fits few known.1 in
    subst (λ (x : Router). IsValue (router_spelling v count) x) (some_is known.2)
    (router_value v count (record { ports = ports.0; rows = table.0; lists = known.0 }) each.1 routes.0 zone_lists.0 each.0 routes.1
    zone_lists.1)

-- ---- Nodes

own_router_is : (d : Data) (r : Option Addr) → own_router d ≡ Some r → IsValue own_router_spelling r
unfolding own_router_spelling
own_router_is d r e = by (any_address d) refl
  where
    by : (found : Option Addr) → any_address d ≡ found → IsValue own_router_spelling r
    by None is = absurd (let f : None ≡ Some r = (rw is at e) in cc)
    by (Some a) is =
        let fits = address_is d a is in
        subst (λ (x : Option Addr). IsValue own_router_spelling x) (some_is (rw is at e))
        ((omega arith, refl), (address_value a (omega (arith, fits)) (omega (arith, fits)), refl))

no_router : IsValue own_router_spelling None
unfolding own_router_spelling
no_router = ((omega arith, refl), refl)

-- Where a node is, in numbers that fit.
pub record IsPlaced (count : ℕ) (p : Seat) : Type 0 where
  pub there : p.cable < count
  pub small : p.cable < 200
  pub fits : Fits p.address
  pub six : length p.hardware.0 ≡ 6
  pub router : IsValue own_router_spelling p.router

placed_is : (count : ℕ) (other : Hw) (ms : Members) (p : Seat) → length other.0 ≡ 6 → placed count other ms ≡ Some p → IsPlaced count p
placed_is count other ms p six_of e =
    let cable = given_is (at (codes "cable") (place count) ms) _ p e in
    let a = given_is (at (codes "address") any_address ms) _ p cable.2 in
    let h = given_is (at_or other (codes "hardware") hardware ms) _ p a.2 in
    let router = given_is (at_or None (codes "router") own_router ms) _ p h.2 in
    let there = at_is (codes "cable") (place count) _ (place_is count) ms cable.0 cable.1 in
    subst (IsPlaced count) (some_is router.2) (record {
      there = there.0;
      small = there.1;
      fits = at_is (codes "address") any_address Fits address_is ms a.0 a.1;
      six = at_or_is other (codes "hardware") hardware HasSix six_of hardware_is ms h.0 h.1;
      router = at_or_is None (codes "router") own_router (λ r. IsValue own_router_spelling r) no_router own_router_is ms router.0 router.1;
    })

pub node_is : (v : Version) (count mark k : ℕ) (d : Data) (n : Node) → node_of v count mark k d ≡ Some n
    → IsValue (node_spelling v count) n
node_is v count mark k d n e =
    let ms = given_is (entry node_keys d) _ n e in
    let p = given_is (placed count (made_up mark 1 k 0) ms.0) _ n ms.2 in
    let z = given_is (at (codes "zone") zone ms.0) _ n p.2 in
    let named = given_is (names ms.0) _ n z.2 in
    let known = given_is (mappings v ms.0) _ n named.2 in
    let at_place = placed_is count (made_up mark 1 k 0) ms.0 p.0 refl p.1 in
    let small = at_place.small in
    let fits = at_place.fits in
    let list_of_names = names_are ms.0 named.0 named.1 in
    subst (λ (x : Node). IsValue (node_spelling v count) x) (some_is known.2) (node_value v count (record {
      cable = p.0.cable;
      address = p.0.address;
      hardware = p.0.hardware;
      zone = z.0;
      router = p.0.router;
      names = named.0;
      mappings = known.0;
    }) (record { cable = omega (arith, small); net = omega (arith, fits); node = omega (arith, fits); hardware = at_place.six }) at_place.there
    (at_is (codes "zone") zone IsName zone_is ms.0 z.0 z.1) at_place.router list_of_names.0 list_of_names.1
    (mappings_are v ms.0 known.0 known.1))
