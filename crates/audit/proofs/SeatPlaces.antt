-- The indices of the seats of an internet: each seat is a router's port or a node, and its index says which.
use Rattle.std.proofs.Common.{◌≡◌, ℕ, zero, suc, ◌+◌, inl, inr, List, [], ◌∷◌, length, map, refl, ap, arith}
use Rattle.table_image.specs.Internet.{Internet}
use Rattle.table_image.specs.Seats.{Seat, port_seat, router_seats, node_seats, seats}
use Rattle.table_image.specs.declared.port.Port.{Port}
use Rattle.table_image.specs.declared.router.Router.{Router}
use Rattle.table_image.specs.declared.node.Node.{Node}
use Rattle.audit.proofs.WalkLists.{At, at_append, at_map}

-- the number of ports before port p of router r
abbrev pub number_of : List Router → ℕ → ℕ → ℕ
number_of [] r p = p
number_of (router ∷ routers) zero p = p
number_of (router ∷ routers) (suc r) p = length router.ports + number_of routers r p

-- the seat at index j, of routers whose stations are numbered from `first` on, is a port's
pub record IsPortSeat (first : ℕ) (routers : List Router) (j : ℕ) (s : Seat) : Type 0 where
  pub r : ℕ
  pub p : ℕ
  pub router : Router
  pub port : Port
  pub known : At routers r router
  pub at : At router.ports p port
  pub station : s.station ≡ first + r
  pub cable : s.cable ≡ port.cable
  pub address : s.address ≡ port.address
  pub hardware : s.hardware ≡ port.hardware
  pub number : j ≡ number_of routers r p

-- the seat at index k, of nodes whose stations are numbered from `first` on, is a node's
pub record IsNodeSeat (first : ℕ) (nodes : List Node) (k : ℕ) (s : Seat) : Type 0 where
  pub node : Node
  pub known : At nodes k node
  pub station : s.station ≡ first + k
  pub cable : s.cable ≡ node.cable
  pub address : s.address ≡ node.address
  pub hardware : s.hardware ≡ node.hardware

port_seat_is : (first : ℕ) (routers : List Router) (j : ℕ) (s : Seat) → At (router_seats first routers) j s → IsPortSeat first routers j s
port_seat_is first [] j s e = cc
port_seat_is first (router ∷ routers) j s e =
    elim (at_append (map (port_seat first) router.ports) (router_seats (suc first) routers) j s e) [
      | inl h ↦
          let w = at_map (port_seat first) router.ports j s h in
          let station = ap (λ (s : Seat). s.station) w.2 in
          record {
            r = zero;
            p = j;
            router = router;
            port = w.0;
            known = refl;
            at = w.1;
            station = omega arith;
            cable = ap (λ (s : Seat). s.cable) w.2;
            address = ap (λ (s : Seat). s.address) w.2;
            hardware = ap (λ (s : Seat). s.hardware) w.2;
            number = refl;
          }
      | inr w ↦
          let rest = port_seat_is (suc first) routers w.0 s w.2 in
          let station = rest.station in
          let number = rest.number in
          let far = w.1 in
          let same = length_map (port_seat first) router.ports in
          record {
            r = suc rest.r;
            p = rest.p;
            router = rest.router;
            port = rest.port;
            known = rest.known;
            at = rest.at;
            station = omega arith;
            cable = rest.cable;
            address = rest.address;
            hardware = rest.hardware;
            number = omega arith;
          }
    ]
  where
    length_map : {X Y : Type 0} (f : X → Y) (xs : List X) → length (map f xs) ≡ length xs
    length_map f [] = refl
    length_map f (x ∷ xs) = let rest = length_map f xs in omega arith

node_seat_is : (first : ℕ) (nodes : List Node) (k : ℕ) (s : Seat) → At (node_seats first nodes) k s → IsNodeSeat first nodes k s
node_seat_is first [] k s e = cc
node_seat_is first (node ∷ nodes) zero s e =
    let it : Seat = record { station = first; cable = node.cable; address = node.address; hardware = node.hardware } in
    let same : s ≡ it = cc in
    let station = ap (λ (s : Seat). s.station) same in
    record {
      node = node;
      known = refl;
      station = omega arith;
      cable = ap (λ (s : Seat). s.cable) same;
      address = ap (λ (s : Seat). s.address) same;
      hardware = ap (λ (s : Seat). s.hardware) same;
    }
node_seat_is first (node ∷ nodes) (suc k) s e =
    let rest = node_seat_is (suc first) nodes k s e in
    let station = rest.station in
    record {
      node = rest.node;
      known = rest.known;
      station = omega arith;
      cable = rest.cable;
      address = rest.address;
      hardware = rest.hardware;
    }

-- A seat of an internet is a port's, or a node's, which comes after those of all ports.
pub data Sits (i : Internet) (j : ℕ) (s : Seat) : Type 0 where
  AtPort : IsPortSeat 0 i.routers j s → Sits i j s
  AtNode : (k : ℕ) → j ≡ length (router_seats 0 i.routers) + k → IsNodeSeat (length i.routers) i.nodes k s → Sits i j s

pub sits : (i : Internet) (j : ℕ) (s : Seat) → At (seats i) j s → Sits i j s
sits i j s e =
    elim (at_append (router_seats 0 i.routers) (node_seats (length i.routers) i.nodes) j s e) [
      | inl h ↦ AtPort (port_seat_is 0 i.routers j s h)
      | inr w ↦ AtNode w.0 w.1 (node_seat_is (length i.routers) i.nodes w.0 s w.2)
    ]
