-- Two runs over frozen tables in which the headline's conditions are met.
use Rattle.std.proofs.Common.{Bool, List, None, Some, [], arith, codes, false, if◌then◌else◌, length, refl, slice_get, subst, suc, sym}
use Rattle.std.proofs.Common.{true, zero, ℕ, ◌+◌, ◌<◌, ◌≤◌, ◌∷◌, ◌≡◌}
use Rattle.std.specs.List.{AllByRecursion as Each}
use Rattle.std.specs.Option.{option_or, unwrap_or}
use Rattle.std.proofs.lemmas.Option.{slice_get_within}
use Rattle.aarp.specs.Mapping.{Mappings}
use Rattle.aarp.specs.Packets.{packet as aarp_packet}
use Rattle.at_base.specs.Address.{address_number, same_address}
use Rattle.at_base.specs.Packets.{address, text}
use Rattle.at_base.specs.Text.{IsName}
use Rattle.at_base.specs.declared.address.Hw.{Hw}
use Rattle.audit.proofs.ExamplePlaces.{passes}
use Rattle.audit.proofs.ExampleWalks.{example_passes}
use Rattle.audit.specs.Example.{addr, by_way_of, direct, example_cables, example_lists, first_router, hardware, second_router, three_cables}
use Rattle.audit.specs.Rules.{Passes}
use Rattle.cable_model.specs.Transcript.{one}
use Rattle.ddp.specs.Datagram.{datagram}
use Rattle.end_node.specs.Holding.{NodeHolding}
use Rattle.frozen.specs.Examples.{echoed, held_for_nobody, nobody_maps, nobody_wiring, stations_of, unknowing}
use Rattle.frozen.specs.Promises.{HaveOnlyAsked, IsAtRest}
use Rattle.frozen.specs.Runs.{IsLegalOn, RunsOver}
use Rattle.image_stations.specs.Holders.{HoldStations, HoldsStation}
use Rattle.legal_cables.specs.Keeping.{IsKept}
use Rattle.legal_runs.proofs.Echo.{echo_is_legal}
use Rattle.legal_runs.specs.Requests.{request}
use Rattle.live_cables.specs.Holding.{datagram as datagram_for}
use Rattle.nbp.specs.Packets.{packet, tuple}
use Rattle.resolved_runs.proofs.Nobody.{nobody_12}
use Rattle.resolved_runs.specs.Example.{resolved_to_nobody, unmapped}
use Rattle.resolved_runs.specs.Fitting.{SeatsFit}
use Rattle.router.specs.Holding.{Holding}
use Rattle.station.specs.Resolution.{packet_at}
use Rattle.station.specs.declared.member.Member.{Member}
use Rattle.table_image.specs.Bounds.{AreMappings, AreZones, Every, IsBounded, IsNodeName, IsNodeWithinLimits, IsRow, IsWithinLimits, Rises}
use Rattle.table_image.specs.Internet.{Internet}
use Rattle.table_image.specs.Seats.{Seat, seats}
use Rattle.table_image.specs.declared.cable.Cable.{Cable}
use Rattle.table_image.specs.declared.mapping.Mapping.{Mapping}
use Rattle.table_image.specs.declared.node.Node.{Node}
use Rattle.table_image.specs.declared.node.NodeName.{NodeName}
use Rattle.table_image.specs.declared.port.Port.{Port}
use Rattle.table_image.specs.declared.row.Row.{Row}
use Rattle.table_image.specs.declared.version.Version.{Version}
use Rattle.table_image.specs.declared.version.Version.TheVariants.{V1, V2}
use Rattle.table_image.specs.declared.zone_list.ZoneList.{ZoneList}

-- ---- Lists

some_is : {X : Type 0} (x y : X) → Some x ≡ Some y → x ≡ y
some_is x y e = cc

-- A property of each element, one after the other, is one of every element.
every : {X : Type 0} (P : X → Type 0) (xs : List X) → Each P xs → Every P xs
every P [] each k x e = cc
every P (x ∷ xs) each zero y e = subst P (some_is x y e) each.0
every P (x ∷ xs) each (suc k) y e = every P xs each.1 k y e

-- Each number is below all that follow.
abbrev Rising : {X : Type 0} → (X → ℕ) → List X → Type 0
Rising f [] = Unit {0}
Rising f (x ∷ xs) = Each (λ y. f x < f y) xs × Rising f xs

rises : {X : Type 0} (f : X → ℕ) (xs : List X) → Rising f xs → Rises f xs
rises f [] rising j k a b ea eb lt = cc
rises f (x ∷ xs) rising zero zero a b ea eb lt = absurd (omega (arith, lt))
rises f (x ∷ xs) rising zero (suc k) a b ea eb lt =
    subst (λ z. f z < f b) (some_is x a ea) (every (λ y. f x < f y) xs rising.0 k b eb)
rises f (x ∷ xs) rising (suc j) zero a b ea eb lt = absurd (omega (arith, lt))
rises f (x ∷ xs) rising (suc j) (suc k) a b ea eb lt = rises f xs rising.1 j k a b ea eb (omega (arith, lt))

-- ---- The internet of three cables is one that images hold

-- The internet as an image of this version.
abbrev over : Version → Internet
over v = record three_cables { version = v }

no_mappings : AreMappings []
no_mappings = record { few = omega arith; rising = rises (λ (m : Mapping). address_number m.address) [] tt }

red : AreZones (codes "Red" ∷ [])
red = record { few = omega arith; each = every IsName (codes "Red" ∷ []) (refl, tt) }

blue : AreZones (codes "Blue" ∷ [])
blue = record { few = omega arith; each = every IsName (codes "Blue" ∷ []) (refl, tt) }

red_and_blue : AreZones (codes "Red" ∷ codes "Blue" ∷ [])
red_and_blue = record { few = omega arith; each = every IsName (codes "Red" ∷ codes "Blue" ∷ []) (refl, (refl, tt)) }

lists_hold : Every (λ (l : ZoneList). AreZones l.zones) example_lists
lists_hold = every (λ (l : ZoneList). AreZones l.zones) example_lists (red, (red_and_blue, (blue, tt)))

lists_rise : Rises (λ (l : ZoneList). l.start) example_lists
lists_rise =
    rises (λ (l : ZoneList). l.start) example_lists
    ((omega arith, (omega arith, tt)), ((omega arith, tt), (tt, tt)))

row_holds : (r : Row) → r.distance ≤ 31 → r.port < 2 → IsRow 2 r
row_holds r far near = record { distance = far; port = near }

first_within : IsWithinLimits 3 first_router
first_within = record {
  ports = omega arith;
  rows = omega arith;
  lists = omega arith;
  rising = rises (λ (r : Row). r.start) first_router.rows ((omega arith, (omega arith, tt)), ((omega arith, tt), (tt, tt)));
  lists_rising = lists_rise;
  each_port = every (λ (x : Port). x.cable < 3) first_router.ports (omega arith, (omega arith, tt));
  each_known = every (λ (x : Port). AreMappings x.mappings) first_router.ports (no_mappings, (no_mappings, tt));
  each_row = every (IsRow 2) first_router.rows (
    row_holds (direct 10 19 0) (omega arith) (omega arith),
    (
      row_holds (direct 20 29 1) (omega arith) (omega arith),
      (row_holds (by_way_of (addr 20 2) 30 39 1) (omega arith) (omega arith), tt),
    ),
  );
  each_list = lists_hold;
}

second_within : IsWithinLimits 3 second_router
second_within = record {
  ports = omega arith;
  rows = omega arith;
  lists = omega arith;
  rising = rises (λ (r : Row). r.start) second_router.rows ((omega arith, (omega arith, tt)), ((omega arith, tt), (tt, tt)));
  lists_rising = lists_rise;
  each_port = every (λ (x : Port). x.cable < 3) second_router.ports (omega arith, (omega arith, tt));
  each_known = every (λ (x : Port). AreMappings x.mappings) second_router.ports (no_mappings, (no_mappings, tt));
  each_row = every (IsRow 2) second_router.rows (
    row_holds (by_way_of (addr 20 1) 10 19 0) (omega arith) (omega arith),
    (
      row_holds (direct 20 29 0) (omega arith) (omega arith),
      (row_holds (direct 30 39 1) (omega arith) (omega arith), tt),
    ),
  );
  each_list = lists_hold;
}

-- The printer's name.
abbrev printer_name : NodeName
printer_name = record { socket = 129; enumerator = 1; object = codes "lab"; kind = codes "LaserWriter" }

printer_named : IsNodeName printer_name
printer_named = record {
  socket_low = omega arith;
  socket_high = omega arith;
  enumerator = omega arith;
  object = record { some = omega arith; few = omega arith; test = refl };
  kind = record { some = omega arith; few = omega arith; test = refl };
}

-- A node on a cable of three, with a zone's name, these names and no mappings.
node_within : (n : Node) → n.cable < 3 → IsName n.zone → length n.names ≤ 1 → Every IsNodeName n.names → n.mappings ≡ []
    → IsNodeWithinLimits 3 n
node_within n there zone few names none = record {
  cable = there;
  zone = zone;
  names = omega (arith, few);
  rising = λ j k a b ea eb lt.
      let below = slice_get_within n.names k b eb in absurd (omega (arith, few, below, lt));
  each_name = names;
  known = subst AreMappings (sym none) no_mappings;
}

within : (v : Version) → IsBounded (over v)
within v = record {
  cables = omega arith;
  routers = omega arith;
  nodes = omega arith;
  each = every (IsWithinLimits 3) three_cables.routers (first_within, (second_within, tt));
  each_cable = every (λ (c : Cable). AreZones c.zones) example_cables (red, (red_and_blue, (blue, tt)));
  each_node = every (IsNodeWithinLimits 3) three_cables.nodes (
    node_within (node_at 0) (omega arith) refl (omega arith) (every IsNodeName [] tt) refl,
    (node_within (node_at 1) (omega arith) refl (omega arith) (every IsNodeName (printer_name ∷ []) (printer_named, tt)) refl, tt),
  );
}
  where
    nobody : Node
    nobody =
        record { cable = 0; address = addr 0 0; hardware = hardware 0; zone = []; router = None; names = []; mappings = [] }

    node_at : ℕ → Node
    node_at k = unwrap_or (slice_get three_cables.nodes k) nobody

pub unmapped_passes : Passes unmapped
unmapped_passes =
    passes unmapped
    (record { one = refl; two = refl; three = refl; four = refl; five = refl; six = refl; eight = refl; nine = refl; ten = refl }) refl

-- ---- Its stations hold what it has for them

holds : (v : Version) → HoldStations (over v) (stations_of (over v))
holds v = record { number = refl; each = each }
  where
    each : (s : ℕ) (m : Member Holding NodeHolding) → slice_get (stations_of (over v)) s ≡ Some m → HoldsStation (over v) s m
    each zero m at =
        subst (HoldsStation (over v) 0) (some_is _ m at)
        (record { router = first_router; known = refl; ports = refl; routes = refl; zones = refl })
    each (suc zero) m at =
        subst (HoldsStation (over v) 1) (some_is _ m at)
        (record { router = second_router; known = refl; ports = refl; routes = refl; zones = refl })
    each (suc (suc zero)) m at =
        subst (HoldsStation (over v) 2) (some_is _ m at)
        (0, refl, record { node = _; known = refl; port = refl; zone = refl; router = refl; names = refl })
    each (suc (suc (suc zero))) m at =
        subst (HoldsStation (over v) 3) (some_is _ m at)
        (1, refl, record { node = _; known = refl; port = refl; zone = refl; router = refl; names = refl })
    each (suc (suc (suc (suc s)))) m at = cc

-- ---- The echo

echo_legal : IsLegalOn three_cables echoed.wiring
unfolding datagram
echo_legal = (refl, echo_is_legal)

pub echo_runs : RunsOver V1 echoed
echo_runs =
    (record { passes = example_passes; bounded = within V1; holders = holds V1; seats = refl; legal = echo_legal }, refl)

pub echo_at_rest : IsAtRest echoed
echo_at_rest = refl

pub echo_asks : HaveOnlyAsked echoed
unfolding request datagram packet tuple address text
echo_asks = refl

-- ---- A datagram for an address that nobody has

fits : SeatsFit unmapped
fits = every (λ (s : Seat). length s.hardware.0 ≡ 6) (seats unmapped) (refl, (refl, (refl, (refl, (refl, (refl, tt))))))

at_most_one : (b : Bool) → one b + 0 ≤ 1
at_most_one true = omega arith
at_most_one false = omega arith

same_choice : (b : Bool) (hw : Hw) → (if b then Some hw else None) ≡ option_or (if b then Some hw else None) None
same_choice true hw = refl
same_choice false hw = refl

-- The router's seat on the first cable holds the datagram, and learnt nothing.
router_keeps : IsKept unmapped resolved_to_nobody 0 0 (record { known = []; held = datagram_for (addr 10 9) 3 ∷ [] })
unfolding datagram packet_at aarp_packet address
router_keeps = record { known = λ a own. refl; once = λ a. omega arith; held = refl }

-- The node learnt the router's address.
node_keeps : IsKept unmapped resolved_to_nobody 2 0 (record { known = (addr 10 1, hardware 1) ∷ []; held = [] })
unfolding datagram packet_at aarp_packet address
node_keeps = record {
  known = λ a own. same_choice (same_address a (addr 10 1)) (hardware 1);
  once = λ a. at_most_one (same_address a (addr 10 1));
  held = refl;
}

first_router_keeps : IsKept unmapped resolved_to_nobody 0 1 unknowing
unfolding datagram packet_at aarp_packet address
first_router_keeps = record { known = λ a own. refl; once = λ a. omega arith; held = refl }

second_router_keeps : IsKept unmapped resolved_to_nobody 1 1 unknowing
unfolding datagram packet_at aarp_packet address
second_router_keeps = record { known = λ a own. refl; once = λ a. omega arith; held = refl }

far_router_keeps : IsKept unmapped resolved_to_nobody 1 2 unknowing
unfolding datagram packet_at aarp_packet address
far_router_keeps = record { known = λ a own. refl; once = λ a. omega arith; held = refl }

printer_keeps : IsKept unmapped resolved_to_nobody 3 2 unknowing
unfolding datagram packet_at aarp_packet address
printer_keeps = record { known = λ a own. refl; once = λ a. omega arith; held = refl }

-- What each seat keeps, by its place.
abbrev Has : ℕ → Seat → Type 0
Has n s = (m : Mappings) × (slice_get nobody_maps n ≡ Some m) × IsKept unmapped resolved_to_nobody s.station s.cable m

each_keeps : (n : ℕ) (s : Seat) → slice_get (seats unmapped) n ≡ Some s → Has n s
each_keeps zero s e = subst (Has 0) (some_is _ s e) (_, refl, router_keeps)
each_keeps (suc zero) s e = subst (Has 1) (some_is _ s e) (_, refl, first_router_keeps)
each_keeps (suc (suc zero)) s e = subst (Has 2) (some_is _ s e) (_, refl, second_router_keeps)
each_keeps (suc (suc (suc zero))) s e = subst (Has 3) (some_is _ s e) (_, refl, far_router_keeps)
each_keeps (suc (suc (suc (suc zero)))) s e = subst (Has 4) (some_is _ s e) (_, refl, node_keeps)
each_keeps (suc (suc (suc (suc (suc zero))))) s e = subst (Has 5) (some_is _ s e) (_, refl, printer_keeps)
each_keeps (suc (suc (suc (suc (suc (suc n)))))) s e = cc

nobody_legal : IsLegalOn unmapped nobody_wiring
unfolding datagram
nobody_legal = (refl, fits, nobody_12, record { seats_are = refl; own = refl; ranges = refl; each = each_keeps })

pub nobody_runs : RunsOver V2 held_for_nobody
nobody_runs =
    (record { passes = unmapped_passes; bounded = within V2; holders = holds V2; seats = refl; legal = nobody_legal }, refl)

pub nobody_at_rest : IsAtRest held_for_nobody
nobody_at_rest = refl

pub nobody_asks : HaveOnlyAsked held_for_nobody
unfolding request datagram packet tuple address text
nobody_asks = refl
