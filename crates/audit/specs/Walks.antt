-- Walks of a datagram from router to router, over the tables of an internet.
use Rattle.std.specs.Prelude.{◌≡◌, ◌≢◌, ℕ, ◌+◌, ◌≤◌, ◌<◌, ◌%◌, ◌==◌, true, false, List, [], ◌∷◌, length, Some, slice_get, slice_index}
use Rattle.at_base.specs.declared.address.Addr.{Addr}
use Rattle.table_image.specs.Internet.{Internet}
use Rattle.table_image.specs.Seats.{Seat, seats}
use Rattle.at_base.specs.Address.{same_address}
use Rattle.at_base.specs.Range.{is_between}
use Rattle.table_image.specs.declared.cable.Cable.{Cable}
use Rattle.audit.specs.Routing.{Here, On, hand, home, owner, distance}
use Rattle.audit.specs.Rules.{same_hardware}
use Rattle.table_image.specs.declared.port.Port.{Port}
use Rattle.table_image.specs.declared.router.Router.{Router}

-- Router r and then the routers of the list are a walk for network n that ends at cable c: each but the last hands the
-- datagram on to the next one, and the last puts it on c.
abbrev pub IsWalk : Internet → ℕ → ℕ → List ℕ → ℕ → Type 0
IsWalk i n r [] c = hand i r n ≡ Here c
IsWalk i n r (s ∷ rest) c = (d : ℕ) × (a : Addr) × (hand i r n ≡ On s d a) × IsWalk i n s rest c

-- the router isn't among the others
abbrev pub NotAmong : ℕ → List ℕ → Type 0
NotAmong r [] = Unit {0}
NotAmong r (s ∷ rest) = (r ≢ s) × NotAmong r rest

-- no router is in the list twice
abbrev pub AreDifferent : List ℕ → Type 0
AreDifferent [] = Unit {0}
AreDifferent (r ∷ rest) = NotAmong r rest × AreDifferent rest

-- From router r there is exactly one walk for network n, which ends at cable c, has no router twice, and has one router
-- more than r's distance, so at most 15.
pub record HasOneWalk (i : Internet) (r n c : ℕ) : Type 0 where
  pub rest : List ℕ
  pub walk : IsWalk i n r rest c
  pub only : (others : List ℕ) (d : ℕ) → IsWalk i n r others d → (others ≡ rest) × (d ≡ c)
  pub different : AreDifferent (r ∷ rest)
  pub long : length rest ≡ distance i r n
  pub short : length (r ∷ rest) ≤ 15

-- One walk home: from each router, for each listed network, there is exactly one walk, and it ends at the network's
-- home.
abbrev pub WalksHome : Internet → Type 0
WalksHome i = (r n c : ℕ) → r < length i.routers → home i n ≡ Some c → HasOneWalk i r n c

-- router r has a port on cable c
pub record HasPort (i : Internet) (r c : ℕ) : Type 0 where
  pub router : Router
  pub place : ℕ
  pub port : Port
  pub known : slice_get i.routers r ≡ Some router
  pub at : slice_get router.ports place ≡ Some port
  pub on : port.cable ≡ c

-- A step of router r for a network n whose home is cable c: r puts the datagram on c, at distance 0 and with a port on
-- c (Stops), or hands it on to a router that is one nearer, over another cable on which both have a port (StepsTo).
pub data Steps (i : Internet) (n c r : ℕ) : Type 0 where
  Stops : hand i r n ≡ Here c → distance i r n ≡ 0 → HasPort i r c → Steps i n c r
  StepsTo : (s d : ℕ) (a : Addr) → hand i r n ≡ On s d a → owner i d a ≡ Some s → s < length i.routers → distance i s n + 1 ≡ distance i r n
      → HasPort i r d → HasPort i s d → d ≢ c → Steps i n c r

-- No two seats have the same address, no two seats on a cable have the same hardware address, and no station has two
-- seats on a cable.
pub record SeatsAreUnique (i : Internet) : Type 0 where
  pub by_address : (j k : ℕ) (s t : Seat) → slice_get (seats i) j ≡ Some s → slice_get (seats i) k ≡ Some t
      → same_address s.address t.address ≡ true → j ≡ k
  pub by_hardware : (j k : ℕ) (s t : Seat) → slice_get (seats i) j ≡ Some s → slice_get (seats i) k ≡ Some t → s.cable ≡ t.cable
      → same_hardware s.hardware t.hardware ≡ true → j ≡ k
  pub by_station : (j k : ℕ) (s t : Seat) → slice_get (seats i) j ≡ Some s → slice_get (seats i) k ≡ Some t → s.station ≡ t.station
      → s.cable ≡ t.cable → j ≡ k

-- A seat is addressed: its address is on its cable, its node number is 1 to 253, and its hardware address is that of
-- one station, not of a group.
pub record IsAddressed (i : Internet) (s : Seat) : Type 0 where
  pub cable : Cable
  pub known : slice_get i.cables s.cable ≡ Some cable
  pub holds : is_between cable.start cable.end s.address.net ≡ true
  pub low : 1 ≤ s.address.node
  pub high : s.address.node ≤ 253
  pub single : (slice_index s.hardware.0 0 % 2 == 1) ≡ false
