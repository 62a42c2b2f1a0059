-- Which stations receive a frame, and which frames are pending.
use Rattle.std.specs.Prelude.{ℕ, Bool, false, not, ◌&&◌, ◌==◌, if◌then◌else◌, List, [], ◌∷◌, ◌++◌, Option, Some, None, map, filter}
use Rattle.std.specs.Prelude.{slice_index}
use Rattle.std.specs.List.{list_any}
use Rattle.at_base.specs.Multicast.{is_all, is_group}
use Rattle.at_base.specs.Text.{same_bytes}
use Rattle.at_base.specs.declared.address.Hw.{Hw}
use Rattle.cable_model.specs.declared.seat.Seat.{Seat}
use Rattle.cable_model.specs.Transcript.{Frame, Entry, Put, Took, Lost}

-- the station belongs to the group: it is a node whose zone has it
abbrev pub listens : ℕ → Option ℕ → Bool
listens group None = false
listens group (Some own) = own == group

-- A frame to all stations is for every station except its sender; one to a group for every other node whose zone has
-- the group; and any other for the stations with its hardware address, the sender included.
abbrev pub is_for : Hw → ℕ → Seat → Bool
is_for to sender s =
    if is_all to then not (s.station == sender)
    else if is_group to then not (s.station == sender) && listens (slice_index to.0 5) s.group
    else same_bytes s.hw.0 to.0

-- the frame is on the seat's cable, and for the seat's station
abbrev pub is_heard : Frame → Seat → Bool
is_heard f s = s.cable == f.cable && is_for f.to f.sender s

-- a frame, and a seat whose station receives it
pub record Pair : Type 0 where
  pub frame : Frame
  pub seat : Seat

-- the pairs that an entry adds: a frame with each seat that receives it
abbrev pub pairs_of : List Seat → Entry → List Pair
pairs_of seats (Put f) = map (λ s. record { frame = f; seat = s }) (filter (is_heard f) seats)
pairs_of seats _ = []

-- the pairs that entries add
abbrev pub pairs : List Seat → List Entry → List Pair
pairs seats [] = []
pairs seats (e ∷ es) = pairs_of seats e ++ pairs seats es

-- the entry ends the pair: its station took the frame, or the frame was lost
abbrev pub ends : Pair → Entry → Bool
ends p (Took stamp station) = stamp == p.frame.stamp && station == p.seat.station
ends p (Lost stamp) = stamp == p.frame.stamp
ends p _ = false

-- one of the entries ends the pair
abbrev pub was_ended : List Entry → Pair → Bool
was_ended entries p = list_any (ends p) entries

-- the pending pairs: those that no entry ended
abbrev pub pending : List Seat → List Entry → List Pair
pending seats entries = filter (λ p. not (was_ended entries p)) (pairs seats entries)
