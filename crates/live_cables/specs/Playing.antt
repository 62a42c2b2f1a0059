-- The entries that are allowed on cables where frames are lost.
use Rattle.std.specs.Prelude.{ℕ, Bool, true, false, not, ◌==◌, ◌&&◌, ◌||◌, cond, IsTrue, List, [], ◌∷◌, ◌++◌}
use Rattle.std.specs.List.{list_any}
use Rattle.cable_model.specs.declared.seat.Seat.{Seat}
use Rattle.cable_model.specs.Holdings.{is_open}
use Rattle.cable_model.specs.Outcomes.{is_named}
use Rattle.cable_model.specs.Pending.{pending}
use Rattle.cable_model.specs.Transcript.{Entry, Put, Took, Lost}

-- If the entry is a take, its frame is pending for its station after the entries before it.
abbrev pub IsDueThen : List Seat → List Entry → Entry → Type 0
IsDueThen seats before (Took stamp station) = IsTrue (list_any (is_named stamp station) (pending seats before))
IsDueThen seats before _ = Unit {0}

-- The frame of each take among these entries is pending for its station at that time.
abbrev pub AreDue : List Seat → List Entry → List Entry → Type 0
AreDue seats before [] = Unit {0}
AreDue seats before (e ∷ es) = IsDueThen seats before e × AreDue seats (before ++ e ∷ []) es

-- The stamps of the frames that were put on cables that lose frames.
abbrev pub losses : (ℕ → Bool) → List Entry → List ℕ
losses losing [] = []
losses losing (Put f ∷ es) = cond (losing f.cable) (f.stamp ∷ losses losing es) (losses losing es)
losses losing (e ∷ es) = losses losing es

-- The stamp is in the list.
abbrev pub is_in : List ℕ → ℕ → Bool
is_in stamps stamp = list_any (λ s. s == stamp) stamps

-- The entry takes none of these frames, and loses one of them at most, or a datagram that is held.
abbrev pub may_be : List ℕ → List Entry → Entry → Bool
may_be lost before (Took stamp station) = not (is_in lost stamp)
may_be lost before (Lost stamp) = is_in lost stamp || is_open before stamp
may_be lost before _ = true

-- Each of these entries may be added after those before it.
abbrev pub are_allowed : List ℕ → List Entry → List Entry → Bool
are_allowed lost before [] = true
are_allowed lost before (e ∷ es) = may_be lost before e && are_allowed lost (before ++ e ∷ []) es

-- Entries may be added while these cables lose frames: each frame that was taken was pending for its station and wasn't
-- put on such a cable; only frames that were put on such a cable were lost, and datagrams that were held.
pub record IsPlayed (seats : List Seat) (losing : ℕ → Bool) (before added : List Entry) : Type 0 where
  pub due : AreDue seats before added
  pub each : IsTrue (are_allowed (losses losing added) before added)

-- No frame that was put on a cable that loses frames is pending for any station.
abbrev pub are_lost : List Seat → (ℕ → Bool) → List Entry → List Entry → Bool
are_lost seats losing before added =
    not (list_any (λ p. is_in (losses losing added) p.frame.stamp) (pending seats (before ++ added)))

-- The entry is a take.
abbrev pub is_took : Entry → Bool
is_took (Took stamp station) = true
is_took _ = false
