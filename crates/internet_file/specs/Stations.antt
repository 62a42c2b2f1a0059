-- The routers and the nodes of an internet file.
use Rattle.std.specs.Prelude.{ℕ, ◌-◌, Bool, true, false, not, ◌&&◌, cond, List, [], ◌∷◌, Option, Some, None, codes, length}
use Rattle.std.specs.Prelude.{nat_lt, slice_get}
use Rattle.std.specs.List.{list_all}
use Rattle.toml.specs.Data.{Data, Members}
use Rattle.at_base.specs.Range.{Span, is_between, overlaps}
use Rattle.at_base.specs.declared.address.Addr.{Addr}
use Rattle.nbp.specs.Registered.{free_from, is_registrable, is_taken, with_name}
use Rattle.nbp.specs.declared.names.Named.{Named}
use Rattle.text.specs.Words.{given}
use Rattle.file_entries.specs.Entries.{all, at, entry, list_at}
use Rattle.file_entries.specs.Values.{any_address, hardware, list_within, number, one_of, short, zone}
use Rattle.internet_file.specs.declared.cable.Cable.{Cable}
use Rattle.internet_file.specs.declared.node.Node.{Node}
use Rattle.internet_file.specs.declared.port.Port.{Port}
use Rattle.internet_file.specs.declared.port.Seat.{Seat}
use Rattle.internet_file.specs.declared.router.Router.{Router}
use Rattle.internet_file.specs.declared.service.Service.{Service}
use Rattle.at_base.specs.Limits.{max_names, max_ports}

-- The cable with this number, from 1.
abbrev pub cable_at : List Cable → ℕ → Option Cable
cable_at cables k = slice_get cables (k - 1)

-- An address that a station may try on a cable: its network is one of the cable's, and its node is 1 to 253.
abbrev pub try_of : Span → Data → Option Addr
try_of range d =
    given (any_address d) (λ a. cond (is_between range.start range.end a.net && is_between 1 253 a.node) (Some a) None)

-- A list of at most 16 addresses to try on the cable with this number.
abbrev pub tries : List Cable → ℕ → Data → Option (List Addr)
tries cables k d = given (cable_at cables k) (λ cable. given (list_within 0 16 d) (all (try_of cable.range)))

-- The hardware address and the addresses to try in the members of an entry, on a cable with this range.
abbrev pub seat_in : Span → Members → Option Seat
seat_in range ms =
    given (at (codes "hardware") hardware ms) (λ hw.
    given (at (codes "try") (λ d. given (list_within 0 16 d) (all (try_of range))) ms) (λ addresses.
    Some (record { hardware = hw; tries = addresses })))

-- The port of a router or a node in the members of an entry.
abbrev pub port_in : List Cable → Members → Option Port
port_in cables ms =
    given (at (codes "cable") (one_of cables) ms) (λ k. given (at (codes "hardware") hardware ms) (λ hw.
    given (at (codes "try") (tries cables k) ms) (λ addresses.
    Some (record { cable = k; hardware = hw; tries = addresses }))))

-- The port in an entry of a router.
abbrev pub port_of : List Cable → Data → Option Port
port_of cables d = given (entry (codes "cable" ∷ codes "hardware" ∷ codes "try" ∷ []) d) (port_in cables)

-- The cables of the two ports have a network in common, as a cable has with itself.
abbrev pub meet : List Cable → Port → Port → Bool
meet cables p q = of (cable_at cables p.cable) (cable_at cables q.cable)
  where
    of : Option Cable → Option Cable → Bool
    of (Some a) (Some b) = overlaps a.range b.range
    of _ _ = false

-- No two of the ports are on cables that have a network in common.
abbrev pub are_apart : List Cable → List Port → Bool
are_apart cables [] = true
are_apart cables (p ∷ ports) = list_all (λ q. not (meet cables p q)) ports && are_apart cables ports

-- A list of 1 to 16 ports, no two of them on cables that have a network in common.
abbrev pub ports : List Cable → Data → Option (List Port)
ports cables d =
    given (list_within 1 max_ports d) (λ ds. given (all (port_of cables) ds) (λ ps. cond (are_apart cables ps) (Some ps) None))

-- The router in an entry.
abbrev pub router_of : List Cable → Data → Option Router
router_of cables d =
    given (entry (codes "port" ∷ []) d) (λ ms. given (at (codes "port") (ports cables) ms) (λ ps.
    Some (record { port = ps })))

-- The service in an entry of a node's names.
abbrev pub service_of : Data → Option Service
service_of d =
    given (entry (codes "object" ∷ codes "type" ∷ codes "socket" ∷ []) d) (λ ms.
    given (at (codes "object") (short 0) ms) (λ object. given (at (codes "type") (short 0) ms) (λ kind.
    given (at (codes "socket") (number 1 254) ms) (λ socket.
    Some (record { object = object; kind = kind; socket = socket })))))

-- A node with these names may register the service.
abbrev pub may_register : List Named → Service → Bool
may_register names s =
    is_registrable s.object && is_registrable s.kind && not (is_taken s.object s.kind names) && nat_lt (length names) max_names

-- The names with that of the service, which has the lowest free enumerator.
abbrev pub with_service : List Named → Service → List Named
with_service names s =
    with_name (record { socket = s.socket; enumerator = free_from 1 names; object = s.object; kind = s.kind }) names

-- The names of a node that has these names and then registers, in order, the services in these entries.
abbrev pub registered : List Named → List Data → Option (List Named)
registered names [] = Some names
registered names (d ∷ ds) =
    given (service_of d) (λ s. cond (may_register names s) (registered (with_service names s) ds) None)

-- The names in the members of a node's entry.
abbrev pub names_in : Members → Option (List Named)
names_in ms = given (list_at (codes "name") ms) (registered [])

-- The keys of a node.
abbrev pub node_keys : List (List ℕ)
node_keys = codes "cable" ∷ codes "hardware" ∷ codes "try" ∷ codes "zone" ∷ codes "name" ∷ []

-- The node in an entry.
abbrev pub node_of : List Cable → Data → Option Node
node_of cables d =
    given (entry node_keys d) (λ ms. given (port_in cables ms) (λ p. given (at (codes "zone") zone ms) (λ z.
    given (names_in ms) (λ names.
    Some (record { cable = p.cable; hardware = p.hardware; tries = p.tries; zone = z; name = names })))))
