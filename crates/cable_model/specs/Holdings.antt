-- The datagrams that are held.
use Rattle.std.specs.Prelude.{ℕ, Bool, false, not, ◌==◌, List, [], ◌∷◌, ◌++◌, filter}
use Rattle.std.specs.List.{list_any}
use Rattle.at_base.specs.declared.address.Hw.{Hw}
use Rattle.cable_model.specs.Transcript.{Entry, Frame, Hold, Holding, Lost, Put}
use Rattle.station.specs.declared.heard.Kind.TheVariants.{Ddp}

-- the datagram that an entry holds
abbrev pub holds_of : Entry → List Holding
holds_of (Hold h) = h ∷ []
holds_of _ = []

-- the datagrams that entries hold
abbrev pub holds : List Entry → List Holding
holds [] = []
holds (e ∷ es) = holds_of e ++ holds es

-- the entry ends the holding: it puts the frame with this stamp, or loses it
abbrev pub releases : ℕ → Entry → Bool
releases stamp (Put f) = stamp == f.stamp
releases stamp (Lost lost) = stamp == lost
releases stamp _ = false

-- one of the entries ends the holding
abbrev pub was_released : List Entry → Holding → Bool
was_released entries h = list_any (releases h.stamp) entries

-- the datagrams that are still held: those whose holding no entry ended
abbrev pub still_held : List Entry → List Holding
still_held entries = filter (λ h. not (was_released entries h)) (holds entries)

-- the datagram has this stamp
abbrev pub has_number : ℕ → Holding → Bool
has_number stamp h = stamp == h.stamp

-- a datagram with this stamp is held
abbrev pub is_open : List Entry → ℕ → Bool
is_open entries stamp = list_any (has_number stamp) (still_held entries)

-- the frame of a datagram that was held
abbrev pub released_frame : Holding → Hw → Frame
released_frame h to = record { stamp = h.stamp; cable = h.cable; sender = h.station; to = to; kind = Ddp; bytes = h.bytes }
