-- The rules of the audit, as tests on places: whether a place breaks a rule. Numbers in a place count from 1, and a
-- place that the internet doesn't have breaks no rule. docs/RULES.md says what each rule is for.
use Rattle.std.specs.Prelude.{◌≡◌, ℕ, zero, suc, ◌+◌, ◌%◌, Bool, true, false, not, ◌&&◌, ◌||◌, if◌then◌else◌, List, Option, Some}
use Rattle.std.specs.Prelude.{None, length, take, slice_get, slice_index, find, nat_le, nat_lt, ◌==◌, is_some, option_and_then}
use Rattle.std.specs.List.{list_any}
use Rattle.at_base.specs.Text.{same_bytes, same_name}
use Rattle.at_base.specs.declared.address.Addr.{Addr}
use Rattle.at_base.specs.declared.address.Hw.{Hw}
use Rattle.at_base.specs.declared.error.Place.{Place}
use Rattle.at_base.specs.declared.error.Place.TheVariants as place
use Rattle.table_image.specs.Internet.{Internet}
use Rattle.table_image.specs.Seats.{Seat, seats}
use Rattle.audit.specs.Places.{on, index_of}
use Rattle.at_base.specs.Address.{same_address}
use Rattle.audit.specs.Routing.{owner}
use Rattle.audit.specs.ZoneLists.{has_double, bad_list, lacks_list}
use Rattle.at_base.specs.Range.{is_between, is_range}
use Rattle.rtmp.specs.States.{is_usable}
use Rattle.table_image.specs.Rows.{is_direct}
use Rattle.table_image.specs.declared.cable.Cable.{Cable}
use Rattle.table_image.specs.declared.mapping.Mapping.{Mapping}
use Rattle.table_image.specs.declared.port.Port.{Port}
use Rattle.table_image.specs.declared.row.Row.{Row}
use Rattle.table_image.specs.declared.router.Router.{Router}
use Rattle.table_image.specs.declared.node.Node.{Node}
use Rattle.audit.specs.declared.rule.Rule.{Rule}
use Rattle.audit.specs.declared.rule.Rule.TheVariants.{CablesInOrder, StationsAddressed, RowsCoverCables, DirectRowsDirect, DistancesFit}
use Rattle.audit.specs.declared.rule.Rule.TheVariants.{NextRoutersExist, DistancesFall, ZoneListsAgree, NodesServed, MappingsTrue}

-- ---- C1: cables are in order

-- the last network of the cable before cable k, or 0 for the first cable
abbrev pub end_before : List Cable → ℕ → ℕ
end_before cables zero = 0
end_before cables (suc k) = end_of (slice_get cables k)
  where
    end_of : Option Cable → ℕ
    end_of None = 0
    end_of (Some c) = c.end

-- A cable is bad if its range isn't valid, its start is at most the end of the cable before, it has no zone, or it has
-- a zone twice.
abbrev pub bad_cable : ℕ → Cable → Bool
bad_cable before c = not (is_range c.start c.end) || nat_le c.start before || length c.zones == 0 || has_double c.zones

-- C1 is broken by a cable that is bad after the one before it
abbrev pub c1 : Internet → Place → Bool
c1 i (place.Cable (suc k)) = on (slice_get i.cables k) (bad_cable (end_before i.cables k))
c1 i _ = false

-- ---- C2: stations are addressed

-- the two hardware addresses are equal
abbrev pub same_hardware : Hw → Hw → Bool
same_hardware a b = same_bytes a.0 b.0

-- an address is bad if it isn't in the range of its cable, its node isn't 1 to 253, or the hardware address has an odd
-- first byte
abbrev pub bad_address : Internet → ℕ → Addr → Hw → Bool
bad_address i cable a hardware =
    not (on (slice_get i.cables cable) (λ c. is_between c.start c.end a.net)) || a.node == 0 || nat_lt 253 a.node
    || slice_index hardware.0 0 % 2 == 1

-- one of the router's ports has the address or the hardware address
abbrev pub router_has : Addr → Hw → Router → Bool
router_has a hardware router = list_any (λ p. same_address a p.address || same_hardware hardware p.hardware) router.ports

-- the node has the address or the hardware address
abbrev pub node_has : Addr → Hw → Node → Bool
node_has a hardware node = same_address a node.address || same_hardware hardware node.hardware

-- a port is bad if it has a bad address, an earlier router has one of its addresses, or an earlier port of its router
-- is on its cable
abbrev pub bad_port : Internet → ℕ → ℕ → Router → Port → Bool
bad_port i r p router port =
    bad_address i port.cable port.address port.hardware
    || list_any (router_has port.address port.hardware) (take r i.routers)
    || list_any (λ q. q.cable == port.cable) (take p router.ports)

-- a node is bad if it has a bad address, or a router or an earlier node has one of its addresses
abbrev pub bad_node : Internet → ℕ → Node → Bool
bad_node i k node =
    bad_address i node.cable node.address node.hardware
    || list_any (router_has node.address node.hardware) i.routers
    || list_any (node_has node.address node.hardware) (take k i.nodes)

-- C2 is broken by a bad port and by a bad node
abbrev pub c2 : Internet → Place → Bool
c2 i (place.Port (suc r) (suc p)) = on (slice_get i.routers r) (λ router. on (slice_get router.ports p) (bad_port i r p router))
c2 i (place.Node (suc k)) = on (slice_get i.nodes k) (bad_node i k)
c2 i _ = false

-- ---- lookups of rows

-- the test of row k of router r; false if it doesn't exist
abbrev pub at_row : Internet → ℕ → ℕ → (Router → Row → Bool) → Bool
at_row i r k test = on (slice_get i.routers r) (λ router. on (slice_get router.rows k) (test router))

-- the row has the range of the cable
abbrev pub is_for : Row → Cable → Bool
is_for row c = row.start == c.start && row.end == c.end

-- the 0-based index of the cable that the row is for, if any
abbrev pub cable_of : Internet → Row → Option ℕ
cable_of i row = index_of (is_for row) i.cables

-- ---- C3: rows cover the cables

-- the row isn't usable, or isn't for a cable
abbrev pub bad_range : Internet → Router → Row → Bool
bad_range i router row = not (is_usable row.state && is_some (cable_of i row))

-- the router has no row for the cable
abbrev pub lacks_row : Router → Cable → Bool
lacks_row router c = not (list_any (λ row. is_for row c) router.rows)

-- ---- C4: direct rows are direct

-- the 0-based index of the router's port on the cable, if any
abbrev pub port_on : Router → ℕ → Option ℕ
port_on router cable = index_of (λ p. p.cable == cable) router.ports

-- A row is bad if the router has a port on its cable and the row isn't direct, with distance 0, by that port; or if the
-- router has none there and the row has distance 0 or is direct.
abbrev pub bad_direct : Row → Option ℕ → Bool
bad_direct row (Some p) = not (row.distance == 0 && row.port == p && is_direct row)
bad_direct row None = row.distance == 0 || is_direct row

-- ---- C5: distances fit

-- the greatest distance, in routers: the hop count of a datagram has four bits, and a datagram with 15 hops is dropped
abbrev pub max_distance : ℕ
max_distance = 14

-- ---- C6: next routers exist

-- the 0-based index of the router that has the row's next address on the cable of the row's port, if any
abbrev pub next_router : Internet → Router → Row → Option ℕ
next_router i router row = option_and_then (λ port. owner i port.cable row.next) (slice_get router.ports row.port)

-- the next router doesn't exist, or is r itself
abbrev pub is_no_other : ℕ → Option ℕ → Bool
is_no_other r None = true
is_no_other r (Some s) = r == s

-- ---- C7: distances fall

-- the router's row with the same range, if any
abbrev pub same_row : Option Router → Row → Option Row
same_row None row = None
same_row (Some router) row = find (λ other. other.start == row.start && other.end == row.end) router.rows

-- the other row doesn't exist, or its distance isn't one less
abbrev pub not_one_less : Row → Option Row → Bool
not_one_less row None = true
not_one_less row (Some other) = not (other.distance + 1 == row.distance)

-- the next router has no row with the same range whose distance is one less
abbrev pub bad_step : Internet → Row → Option ℕ → Bool
bad_step i row None = true
bad_step i row (Some s) = not_one_less row (same_row (slice_get i.routers s) row)

-- ---- the rules about rows, C3 to C7

-- A row of router r breaks the rule: for C3, it isn't usable, or isn't for a cable; for C4, it is for a cable of the
-- router and isn't direct by its port there, or is for another cable and has distance 0 or is direct; for C5, its
-- distance is too great; for C6, it isn't direct, and no other router is its next router; for C7, it isn't direct, and
-- its next router isn't one nearer.
abbrev pub row_breaks : Rule → Internet → ℕ → Router → Row → Bool
row_breaks CablesInOrder i r router row = false
row_breaks StationsAddressed i r router row = false
row_breaks RowsCoverCables i r router row = bad_range i router row
row_breaks DirectRowsDirect i r router row = on (cable_of i row) (λ c. bad_direct row (port_on router c))
row_breaks DistancesFit i r router row = nat_lt max_distance row.distance
row_breaks NextRoutersExist i r router row = not (is_direct row) && is_no_other r (next_router i router row)
row_breaks DistancesFall i r router row = not (is_direct row) && bad_step i row (next_router i router row)
row_breaks ZoneListsAgree i r router row = false
row_breaks NodesServed i r router row = false
row_breaks MappingsTrue i r router row = false

-- a cable for which a router has no row breaks the rule, which only C3 says
abbrev pub lack_breaks : Rule → Internet → ℕ → ℕ → Bool
lack_breaks RowsCoverCables i (suc r) (suc k) = on (slice_get i.routers r) (λ router. on (slice_get i.cables k) (lacks_row router))
lack_breaks rule i r k = false

-- the place of a row, or of a cable without a row, breaks the rule
abbrev pub breaks_rows : Rule → Internet → Place → Bool
breaks_rows rule i (place.Row (suc r) (suc k)) = at_row i r k (row_breaks rule i r)
breaks_rows rule i (place.Missing r k) = lack_breaks rule i r k
breaks_rows rule i _ = false

-- C3 is broken by a row that isn't usable or isn't for a cable, and by a cable for which a router has no row
abbrev pub c3 : Internet → Place → Bool
c3 = breaks_rows RowsCoverCables

-- C4 is broken by a row for a cable of the router that isn't direct by its port there, and by a row for another cable
-- that has distance 0 or is direct
abbrev pub c4 : Internet → Place → Bool
c4 = breaks_rows DirectRowsDirect

-- C5 is broken by a row whose distance is above 14, which a datagram's hop count can't reach
abbrev pub c5 : Internet → Place → Bool
c5 = breaks_rows DistancesFit

-- C6 is broken by a row that isn't direct and has no other router as its next router
abbrev pub c6 : Internet → Place → Bool
c6 = breaks_rows NextRoutersExist

-- C7 is broken by a row that isn't direct and whose next router isn't one nearer
abbrev pub c7 : Internet → Place → Bool
c7 = breaks_rows DistancesFall

-- ---- C8: zone lists agree

-- C8 is broken by a bad list, and by a cable for which a router has no list
abbrev pub c8 : Internet → Place → Bool
c8 i (place.List (suc r) (suc k)) = on (slice_get i.routers r) (λ router. on (slice_get router.lists k) (bad_list i))
c8 i (place.Missing (suc r) (suc k)) = on (slice_get i.routers r) (λ router. on (slice_get i.cables k) (lacks_list router))
c8 i _ = false

-- ---- C9: nodes are served

-- the node has a router that isn't a router's port on its cable
abbrev pub has_bad_router : Internet → Node → Bool
has_bad_router i node = on node.router (λ a. not (is_some (owner i node.cable a)))

-- the node's cable has its zone, ignoring case
abbrev pub has_its_zone : Internet → Node → Bool
has_its_zone i node = on (slice_get i.cables node.cable) (λ c. list_any (same_name node.zone) c.zones)

-- A node is badly served if it has a router that isn't a router's port on its cable, or if its cable doesn't have its
-- zone.
abbrev pub bad_service : Internet → Node → Bool
bad_service i node = has_bad_router i node || not (has_its_zone i node)

-- C9 is broken by a node that is badly served
abbrev pub c9 : Internet → Place → Bool
c9 i (place.Node (suc k)) = on (slice_get i.nodes k) (bad_service i)
c9 i _ = false

-- ---- C10: mappings are true

-- the seat is on the cable, and has the address and the hardware address of the mapping
abbrev pub is_mapped : ℕ → Mapping → Seat → Bool
is_mapped cable m s = s.cable == cable && same_address m.address s.address && same_hardware m.hardware s.hardware

-- a mapping is false if no station on the cable has both its addresses
abbrev pub is_false : Internet → ℕ → Mapping → Bool
is_false i cable m = not (list_any (is_mapped cable m) (seats i))

-- C10 is broken by a port and by a node with a mapping that is false on its cable
abbrev pub c10 : Internet → Place → Bool
c10 i (place.Port (suc r) (suc p)) =
    on (slice_get i.routers r) (λ router. on (slice_get router.ports p) (λ port. list_any (is_false i port.cable) port.mappings))
c10 i (place.Node (suc k)) = on (slice_get i.nodes k) (λ node. list_any (is_false i node.cable) node.mappings)
c10 i _ = false

-- ---- all rules

-- the number of a rule, as in C3
abbrev pub number_of : Rule → ℕ
number_of CablesInOrder = 1
number_of StationsAddressed = 2
number_of RowsCoverCables = 3
number_of DirectRowsDirect = 4
number_of DistancesFit = 5
number_of NextRoutersExist = 6
number_of DistancesFall = 7
number_of ZoneListsAgree = 8
number_of NodesServed = 9
number_of MappingsTrue = 10

-- the place breaks the rule with this number
abbrev pub breaks : Internet → ℕ → Place → Bool
breaks i rule p =
    if rule == 1 then c1 i p
    else if rule == 2 then c2 i p
    else if rule == 3 then c3 i p
    else if rule == 4 then c4 i p
    else if rule == 5 then c5 i p
    else if rule == 6 then c6 i p
    else if rule == 7 then c7 i p
    else if rule == 8 then c8 i p
    else if rule == 9 then c9 i p
    else if rule == 10 then c10 i p
    else false

-- no place breaks the rule
abbrev pub Keeps : Internet → ℕ → Type 0
Keeps i rule = (p : Place) → breaks i rule p ≡ false

-- the internet passes: no place breaks any rule
abbrev pub Passes : Internet → Type 0
Passes i = (rule : ℕ) → Keeps i rule
