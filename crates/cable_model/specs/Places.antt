-- The indices of the seats on each cable and of each station.
use Rattle.std.specs.Prelude.{◌≡◌, ℕ, zero, suc, max, ◌+◌, ◌≤◌, ◌==◌, ◌++◌, cond, Bool, true, false, List, [], ◌∷◌, length, slice_get}
use Rattle.std.specs.Prelude.{Option, Some, None}
use Rattle.cable_model.specs.declared.due.Due.{Due}
use Rattle.cable_model.specs.declared.seat.Seat.{Seat}
use Rattle.cable_model.specs.declared.seats.Key.{Key}
use Rattle.cable_model.specs.declared.seats.Key.TheVariants as key

-- the seat has this cable, this station or this port
abbrev pub has_key : Key → Seat → Bool
has_key (key.Cable cable) s = s.cable == cable
has_key (key.Station station) s = s.station == station
has_key (key.Port port) s = s.port == port

-- the indices of the seats that pass a test, where the first seat has the index k
abbrev pub indices : (Seat → Bool) → ℕ → List Seat → List ℕ
indices test k [] = []
indices test k (s ∷ ss) = cond (test s) (k ∷ indices test (k + 1) ss) (indices test (k + 1) ss)

-- list n has the indices of the seats with key n
abbrev pub AreLists : (ℕ → Key) → List Seat → List (List ℕ) → Type 0
AreLists key_of seats lists = (n : ℕ) (list : List ℕ) → slice_get lists n ≡ Some list → list ≡ indices (has_key (key_of n)) 0 seats

-- the most seats that one of the first n cables has
abbrev pub most_on : ℕ → List Seat → ℕ
most_on zero seats = 0
most_on (suc n) seats = max (length (indices (has_key (key.Cable n)) 0 seats)) (most_on n seats)

-- The most seats that a cable has: a frame is pending for at most as many stations.
unfoldable pub widest : List Seat → ℕ
widest seats = most_on 256 seats

-- The index of seats is right: it has a list for each cable, and for some of the first stations; and n is the most seats
-- that a cable has.
pub record AreIndexed (seats : List Seat) (on of : List (List ℕ)) (n : ℕ) : Type 0 where
  pub cables : AreLists key.Cable seats on
  pub all : 256 ≤ length on
  pub stations : AreLists key.Station seats of
  pub most : n ≡ widest seats

-- the stored pair of a frame and a seat, if the seat exists and passes the test
abbrev pub due_at : (Seat → Bool) → Option Seat → ℕ → ℕ → ℕ → List Due
due_at test None stamp put k = []
due_at test (Some s) stamp put k = cond (test s) (record { stamp = stamp; station = s.station; put = put; seat = k } ∷ []) []

-- the stored pairs of a frame and those of the seats with these indices that pass the test
abbrev pub dues_at : (Seat → Bool) → List Seat → ℕ → ℕ → List ℕ → List Due
dues_at test seats stamp put [] = []
dues_at test seats stamp put (k ∷ ks) = due_at test (slice_get seats k) stamp put k ++ dues_at test seats stamp put ks

-- the seat exists, and passes the test
abbrev pub passes : (Seat → Bool) → Option Seat → Bool
passes test None = false
passes test (Some s) = test s

-- the first of these indices whose seat passes the test
abbrev pub first_at : (Seat → Bool) → List Seat → List ℕ → Option ℕ
first_at test seats [] = None
first_at test seats (k ∷ ks) = cond (passes test (slice_get seats k)) (Some k) (first_at test seats ks)

-- the list isn't empty
abbrev pub has_some : List ℕ → Bool
has_some [] = false
has_some (k ∷ ks) = true
