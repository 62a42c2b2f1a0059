-- Seats, their addresses and mappings, and the ranges of cables, station by station.
use Rattle.std.proofs.Common.{◌≡◌, ℕ, suc, ◌+◌, ◌≤◌, List, [], ◌∷◌, ◌++◌, length, map, refl, sym, ap, ◌∙◌}
use Rattle.std.proofs.lemmas.List.{length-append, length-map, map-append}
use Rattle.std.specs.Prelude.{Option, Some, slice_get}
use Rattle.std.specs.List.{AllByRecursion as Each}
use Rattle.aarp.specs.Mapping.{Mappings}
use Rattle.at_base.specs.Limits.{max_mappings}
use Rattle.at_base.specs.Range.{IsRange}
use Rattle.at_base.specs.declared.address.Addr.{Addr}
use Rattle.audit.specs.Rules.{Passes}
use Rattle.audit.proofs.WalkSteps.{cable_good}
use Rattle.cable_model.proofs.Counting.{each-append}
use Rattle.image_cables.specs.Settled.{node_address, node_maps, port_address, port_maps, router_addresses, router_maps, seat_addresses}
use Rattle.image_cables.specs.Settled.{seat_maps}
use Rattle.image_stations.proofs.Addressed.{is_range_when}
use Rattle.legal_runs.specs.Stations.{cable_seat, cable_seats}
use Rattle.live_cables.specs.Holding.{AreFew}
use Rattle.table_image.specs.Internet.{Internet}
use Rattle.table_image.specs.Seats.{Seat, node_seats, port_seat, router_seats, seats}
use Rattle.table_image.specs.declared.cable.Cable.{Cable}
use Rattle.table_image.specs.declared.node.Node.{Node}
use Rattle.table_image.specs.declared.port.Port.{Port}
use Rattle.table_image.specs.declared.router.Router.{Router}

-- ---- Ranges

each_range : (cables : List Cable) → ((k : ℕ) (c : Cable) → slice_get cables k ≡ Some c → IsRange c.start c.end)
    → Each (λ (c : Cable). IsRange c.start c.end) cables
each_range [] each = tt
each_range (c ∷ cables) each = (each 0 c refl, each_range cables (λ k d at. each (suc k) d at))

-- The ranges of an image that passes the audit are valid.
pub have_ranges : (i : Internet) → Passes i → Each (λ (c : Cable). IsRange c.start c.end) i.cables
have_ranges i ok =
    each_range i.cables (λ k c at. let good = cable_good i ok k c at in is_range_when c.start c.end good.low good.up good.high)

-- ---- Addresses

-- The address of a seat.
abbrev address_of : Seat → Option Addr
address_of s = Some s.address

ports_are : (r : ℕ) (ports : List Port) → map address_of (map (port_seat r) ports) ≡ map port_address ports
ports_are r [] = refl
ports_are r (port ∷ ports) = ap (λ l. port_address port ∷ l) (ports_are r ports)

routers_are : (r : ℕ) (routers : List Router) → map address_of (router_seats r routers) ≡ router_addresses routers
routers_are r [] = refl
routers_are r (router ∷ routers) =
    map-append address_of (map (port_seat r) router.ports) (router_seats (suc r) routers)
    ∙ (ap (λ l. l ++ map address_of (router_seats (suc r) routers)) (ports_are r router.ports)
    ∙ ap (λ l. map port_address router.ports ++ l) (routers_are (suc r) routers))

nodes_are : (s : ℕ) (nodes : List Node) → map address_of (node_seats s nodes) ≡ map node_address nodes
nodes_are s [] = refl
nodes_are s (node ∷ nodes) = ap (λ l. node_address node ∷ l) (nodes_are (suc s) nodes)

-- The addresses of an internet's seats: of its routers, then of its nodes.
pub addresses_are : (i : Internet) → router_addresses i.routers ++ map node_address i.nodes ≡ seat_addresses i
addresses_are i =
    sym (map-append address_of (router_seats 0 i.routers) (node_seats (length i.routers) i.nodes)
    ∙ (ap (λ l. l ++ map address_of (node_seats (length i.routers) i.nodes)) (routers_are 0 i.routers)
    ∙ ap (λ l. router_addresses i.routers ++ l) (nodes_are (length i.routers) i.nodes)))

-- ---- As many as seats

as_many_routers : (r : ℕ) (routers : List Router) → length (router_maps routers) ≡ length (router_seats r routers)
as_many_routers r [] = refl
as_many_routers r (router ∷ routers) =
    length-append (map port_maps router.ports) (router_maps routers)
    ∙ (ap (λ n. n + length (router_maps routers)) (length-map router.ports port_maps ∙ sym (length-map router.ports (port_seat r)))
    ∙ (ap (λ n. length (map (port_seat r) router.ports) + n) (as_many_routers (suc r) routers)
    ∙ sym (length-append (map (port_seat r) router.ports) (router_seats (suc r) routers))))

as_many_nodes : (s : ℕ) (nodes : List Node) → length (map node_maps nodes) ≡ length (node_seats s nodes)
as_many_nodes s [] = refl
as_many_nodes s (node ∷ nodes) = ap suc (as_many_nodes (suc s) nodes)

-- There are as many mappers as seats.
pub as_many_maps : (i : Internet) → length (seat_maps i) ≡ length (cable_seats i)
as_many_maps i =
    length-append (router_maps i.routers) (map node_maps i.nodes)
    ∙ (ap (λ n. n + length (map node_maps i.nodes)) (as_many_routers 0 i.routers)
    ∙ (ap (λ n. length (router_seats 0 i.routers) + n) (as_many_nodes (length i.routers) i.nodes)
    ∙ (sym (length-append (router_seats 0 i.routers) (node_seats (length i.routers) i.nodes))
    ∙ sym (length-map (seats i) (cable_seat i)))))

-- There are as many addresses as seats.
pub as_many_addresses : (i : Internet) → length (seat_addresses i) ≡ length (cable_seats i)
as_many_addresses i = length-map (seats i) address_of ∙ sym (length-map (seats i) (cable_seat i))

-- ---- Mappings

-- One more mapper with few mappings.
pub few_more : (maps : List Mappings) (m : Mappings) → AreFew maps → length m.known ≤ max_mappings → AreFew (maps ++ m ∷ [])
few_more maps m few one = each-append (λ (n : Mappings). length n.known ≤ max_mappings) maps (m ∷ []) few (one, tt)
