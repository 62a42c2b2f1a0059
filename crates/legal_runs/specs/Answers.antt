-- The datagrams that stations may send: how each leaves its station, and which requests a router makes from requests
-- that end at it. Inside AppleTalk, the chapters on DDP and NBP.
use Rattle.std.specs.Prelude.{◌≡◌, ◌≢◌, ◌<◌, ℕ, true, false, not, ◌&&◌, ◌||◌, ◌==◌, ◌⊎◌, Bool, List, [], ◌∷◌, Some, IsTrue, nat_lt}
use Rattle.std.specs.List.{list_all, AllByRecursion as Each}
use Rattle.at_base.specs.Spelling.{Spells}
use Rattle.at_base.specs.Text.{is_name}
use Rattle.at_base.specs.declared.address.Addr.{Addr}
use Rattle.ddp.specs.Bodies.{body, target}
use Rattle.ddp.specs.Datagram.{Datagram, checksum_of, datagram}
use Rattle.table_image.specs.Internet.{Internet}
use Rattle.audit.specs.Routing.{Hand, Here, On, Nowhere, hand, home, owner}
use Rattle.cable_model.specs.Pending.{Pair}
use Rattle.legal_runs.specs.Legs.{Leg, is_copy, is_unicast}
use Rattle.legal_runs.specs.Requests.{request, is_broadcast, is_forward, is_lookup, key_in, listing, zone_of}
use Rattle.legal_runs.specs.Stations.{cable_holds, has_address, is_on, is_router}
use Rattle.at_base.specs.Multicast.{group_of}
use Rattle.station.specs.declared.output.Next.TheVariants as next

-- The bytes are exactly one whole datagram with hop count 0, and with no checksum or the right one.
pub record IsBody (bytes : List ℕ) : Type 0 where
  pub value : Datagram
  pub spelled : Spells datagram bytes value
  pub each : IsTrue (list_all (λ b. nat_lt b 256) bytes)
  pub fresh : value.hops ≡ 0
  pub sum : (value.checksum ≡ 0) ⊎ (value.checksum ≡ checksum_of value)

-- How a datagram may leave a station: directly to its target node if the network is in the cable's range; to a router
-- if the network isn't 0; to all stations if the target is all nodes of a network in the cable's range, or of network
-- 0; to a group if the target is all nodes of network 0.
pub data MayLeave (i : Internet) (l : Leg) : Type 0 where
  Straight : l.next ≡ next.Station (target l.body) → cable_holds i l.cable (target l.body).net ≡ true → (target l.body).node ≢ 0
      → (target l.body).node ≢ 255 → MayLeave i l
  ByRouter : (a : Addr) (r : ℕ) → l.next ≡ next.Station a → owner i l.cable a ≡ Some r → (target l.body).net ≢ 0 → MayLeave i l
  ToThem : l.next ≡ next.All → cable_holds i l.cable (target l.body).net ≡ true → (target l.body).node ≡ 255 → MayLeave i l
  OnCable : l.next ≡ next.All → (target l.body).net ≡ 0 → (target l.body).node ≡ 255 → MayLeave i l
  ToThese : (g : ℕ) → g < 253 → l.next ≡ next.Group g → (target l.body).net ≡ 0 → (target l.body).node ≡ 255 → MayLeave i l

-- A station made the leg's datagram: it is on the cable, the datagram is whole with hop count 0, and it leaves in a way
-- that `MayLeave` allows.
pub record IsMade (i : Internet) (l : Leg) : Type 0 where
  pub seated : is_on i l.station l.cable ≡ true
  pub whole : IsBody l.body
  pub fresh : l.hops ≡ 0
  pub goes : MayLeave i l

-- ---- Requests that end at a router

-- With this routing decision for its target, router r keeps the datagram: the target is on a cable of the router, and
-- is any router (node 0) or the router's own address there.
abbrev pub keeps_by : Internet → ℕ → Addr → Hand → Bool
keeps_by i r a Nowhere = false
keeps_by i r a (Here c) = a.node == 0 || has_address i r c a
keeps_by i r a (On s c next) = false

-- The frame was sent to a router's own hardware address, and its datagram ends at that router.
abbrev pub ends_at : Internet → Pair → Bool
ends_at i p =
    is_unicast p.frame.to && is_router i p.seat.station
    && (has_address i p.seat.station p.seat.cable (target p.frame.bytes)
    || (is_copy i p && keeps_by i p.seat.station (target p.frame.bytes) (hand i p.seat.station (target p.frame.bytes).net)))

-- The datagram is a broadcast request that ends at the station that takes it.
abbrev pub asks_here : Internet → Pair → Bool
asks_here i p = is_broadcast (request (body p.frame.bytes)) && ends_at i p

-- The datagram is a forward request with a valid zone name that ends at the station that takes it.
abbrev pub seeks_here : Internet → Pair → Bool
seeks_here i p =
    is_forward (request (body p.frame.bytes)) && is_name (zone_of (key_in (request (body p.frame.bytes)))) && ends_at i p

-- The leg is a lookup with this key, sent by router r on cable c to the multicast address of the zone.
pub record IsLookup (i : Internet) (k : List ℕ) (r c : ℕ) (l : Leg) : Type 0 where
  pub here : l.cable ≡ c
  pub by : l.station ≡ r
  pub kind : is_lookup (request l.body) ≡ true
  pub key : key_in (request l.body) ≡ k
  pub next : l.next ≡ next.Group (group_of (zone_of k))

-- The leg is a forward request with this key to any router of cable c, and goes to the router to which router r hands
-- datagrams for c's network.
pub record IsForward (i : Internet) (k : List ℕ) (r c : ℕ) (l : Leg) : Type 0 where
  pub kind : is_forward (request l.body) ≡ true
  pub key : key_in (request l.body) ≡ k
  pub to : home i (target l.body).net ≡ Some c
  pub node : (target l.body).node ≡ 0
  pub router : ℕ
  pub address : Addr
  pub handed : hand i r (target l.body).net ≡ On router l.cable address
  pub next : l.next ≡ next.Station address

-- The legs are one lookup or forward request for each of these cables, in the order of the cables.
abbrev pub Expands : Internet → List ℕ → ℕ → List ℕ → List Leg → Type 0
Expands i k r [] [] = Unit {0}
Expands i k r [] (l ∷ ls) = ⊥
Expands i k r (c ∷ cs) [] = ⊥
Expands i k r (c ∷ cs) (l ∷ ls) = (IsLookup i k r c l ⊎ IsForward i k r c l) × Expands i k r cs ls

-- The datagram is no NBP request.
abbrev pub is_other : List ℕ → Bool
is_other b = not (is_broadcast (request b) || is_forward (request b) || is_lookup (request b))

-- The datagrams that a station sends after it took a pair: for a broadcast request that ends at it, one lookup or
-- forward request for each cable that lists the zone; for a forward request that ends at it, one lookup on the target's
-- cable; otherwise no NBP requests.
pub data Answers (i : Internet) (p : Pair) (ls : List Leg) : Type 0 where
  Expanded : asks_here i p ≡ true
      → Expands i (key_in (request (body p.frame.bytes))) p.seat.station (listing i (zone_of (key_in (request (body p.frame.bytes))))) ls
      → Answers i p ls
  LookedUp : (c : ℕ) (l : Leg) → seeks_here i p ≡ true → home i (target p.frame.bytes).net ≡ Some c → ls ≡ l ∷ []
      → IsLookup i (key_in (request (body p.frame.bytes))) p.seat.station c l → Answers i p ls
  Others : asks_here i p ≡ false → seeks_here i p ≡ false → Each (λ (l : Leg). is_other l.body ≡ true) ls → Answers i p ls

-- A datagram that a node sends on its own initiative is to network 0, or is handed to a router.
pub record IsOwn (i : Internet) (l : Leg) : Type 0 where
  pub by_node : is_router i l.station ≡ false
  pub handed : ((target l.body).net ≡ 0) ⊎ ((a : Addr) × (r : ℕ) × (l.next ≡ next.Station a) × (owner i l.cable a ≡ Some r))
