-- What a station holds and learns: the changes of its seats' mappings, and the frames that are put for them.
use Rattle.std.specs.Prelude.{◌≡◌, ◌⊎◌, ℕ, Bool, true, false, not, List, [], ◌∷◌, filter, map, Option, Some, None, Contains}
use Rattle.std.specs.Prelude.{◌≤◌, IsSome, length, slice_get, slice_set, option_and_then}
use Rattle.std.specs.List.{AllByRecursion as Each}
use Rattle.aarp.specs.Mapping.{Mappings, holding, is_for, learnt, mapping_of, met, pushed_out, waited}
use Rattle.aarp.specs.Packets.{packet, written}
use Rattle.aarp.specs.declared.held.Held.{Held}
use Rattle.at_base.specs.Spelling.{Spells}
use Rattle.at_base.specs.declared.address.Addr.{Addr}
use Rattle.at_base.specs.declared.address.Hw.{Hw}
use Rattle.cable_model.specs.Holdings.{is_open, released_frame, still_held}
use Rattle.cable_model.specs.Logs.{Adds, Cabling, transcript}
use Rattle.cable_model.specs.Outgoing.{let_go}
use Rattle.cable_model.specs.Transcript.{Holding, Put}
use Rattle.cable_model.specs.declared.resolve.HeldBy.{HeldBy}
use Rattle.cable_model.specs.declared.seat.Seat.{Seat}
use Rattle.live_cables.specs.Finding.{Knowing, is_first_for, own_or_none, request_for, seat_by, seat_on}
use Rattle.live_cables.specs.declared.answer.Answer.{Answer}
use Rattle.at_base.specs.Limits.{max_mappings}

-- A datagram that is held with a stamp until an address is known. Its bytes are those of its entry.
abbrev pub datagram : Addr → ℕ → Held
datagram a stamp = record { next = a; asked = 1; stamp = Some stamp; bytes = [] }

-- The mappings after a datagram is held at a seat for an address, with a stamp.
abbrev pub with_held : List Mappings → ℕ → Addr → ℕ → List Mappings
with_held maps i a stamp = by (slice_get maps i)
  where
    by : Option Mappings → List Mappings
    by None = maps
    by (Some m) = slice_set maps i (record m { held = holding (datagram a stamp) m.held })

-- The stamp of the datagram that is let go when one more is held at a seat, if there is one.
abbrev pub shed_at : List Mappings → ℕ → Addr → ℕ → Option ℕ
shed_at maps i a stamp = by (slice_get maps i)
  where
    by : Option Mappings → Option ℕ
    by None = None
    by (Some m) = option_and_then (λ (h : Held). h.stamp) (pushed_out (datagram a stamp) m.held)

-- The mappings after those of a seat advanced by a tick.
abbrev pub with_tick : List Mappings → ℕ → List Mappings
with_tick maps i = by (slice_get maps i)
  where
    by : Option Mappings → List Mappings
    by None = maps
    by (Some m) = slice_set maps i (record m { held = waited m.held })

-- The AARP request of a seat's station for an address, where one is to go out: there is one if the seat exists.
abbrev pub IsRequest : Bool → Option Seat → Option (Option Addr) → Addr → Option (List ℕ) → Type 0
IsRequest false seat own a ask = ask ≡ None
IsRequest true None own a ask = ask ≡ None
IsRequest true (Some s) own a ask =
    (bytes : List ℕ) × Spells packet bytes (written (request_for s.hw (own_or_none own) a)) × (ask ≡ Some bytes)

-- A datagram with a stamp is held at the seat of the station on the cable, and a request goes out if none was held for
-- the address; if there is no such seat, nothing changes.
abbrev pub Holds : Knowing → ℕ → Addr → ℕ → HeldBy → Knowing → Type 0
Holds k cable a stamp by l = at (seat_on k.seats cable k.station)
  where
    at : Option ℕ → Type 0
    at None = (l ≡ k) × (by ≡ record { shed = None; ask = None })
    at (Some i) =
        (l ≡ record k { maps = with_held k.maps i a stamp }) × (by.shed ≡ shed_at k.maps i a stamp)
        × IsRequest (is_first_for k.maps i a) (slice_get k.seats i) (slice_get k.own i) a by.ask

-- The frame of the datagram that is held with this stamp was put on its cable, to a hardware address; without such a
-- datagram nothing was added.
abbrev pub IsReleased : Hw → Option ℕ → Cabling → Cabling → Type 0
IsReleased to None old new = Adds old new []
IsReleased to (Some stamp) old new =
    ((h : Holding) × Contains (still_held (transcript old)) h × (h.stamp ≡ stamp) × Adds old new (Put (released_frame h to) ∷ []))
    ⊎ ((is_open (transcript old) stamp ≡ false) × Adds old new [])

-- The frames of the datagrams that are held with these stamps were put, in order, to one hardware address.
abbrev pub AreReleased : Hw → List (Option ℕ) → Cabling → Cabling → Type 0
AreReleased to [] old new = Adds old new []
AreReleased to (s ∷ ss) old new = (mid : Cabling) × IsReleased to s old mid × AreReleased to ss mid new

-- The datagrams that are held with these stamps were given up, in order.
abbrev pub AreShed : List ℕ → Cabling → Cabling → Type 0
AreShed [] old new = Adds old new []
AreShed (s ∷ ss) old new = (mid : Cabling) × Adds old mid (let_go (transcript old) (Some s)) × AreShed ss mid new

-- The mappings after those that a seat knows were changed.
abbrev pub with_known : List Mappings → ℕ → (List (Addr × Hw) → List (Addr × Hw)) → List Mappings
with_known maps i change = by (slice_get maps i)
  where
    by : Option Mappings → List Mappings
    by None = maps
    by (Some m) = slice_set maps i (record m { known = change m.known })

-- The mappings after those datagrams were taken out that are held at a seat for an address.
abbrev pub without_held : List Mappings → ℕ → Addr → List Mappings
without_held maps i a = by (slice_get maps i)
  where
    by : Option Mappings → List Mappings
    by None = maps
    by (Some m) = slice_set maps i (record m { held = filter (λ h. not (is_for a h)) m.held })

-- The mappings after the one in a response was learnt at a seat, and the datagrams that are held for its source were
-- taken out.
abbrev pub with_learnt : List Mappings → ℕ → Answer → List Mappings
with_learnt maps i answer = without_held (with_known maps i (learnt answer.source answer.source_hw)) i answer.source

-- The address is known at a seat, if the seat has mappings.
abbrev pub IsKnownAt : List Mappings → ℕ → Addr → Type 0
IsKnownAt maps i a = of (slice_get maps i)
  where
    of : Option Mappings → Type 0
    of None = Unit {0}
    of (Some m) = IsSome (mapping_of a m.known)

-- The seat has mappings, and the address isn't known there.
abbrev pub IsUnknownAt : List Mappings → ℕ → Addr → Type 0
IsUnknownAt maps i a = of (slice_get maps i)
  where
    of : Option Mappings → Type 0
    of None = ⊥
    of (Some m) = mapping_of a m.known ≡ None

-- The mapping in a response was learnt ahead at a seat if its address was unknown there; else nothing changed.
abbrev pub IsMet : ℕ → Answer → List Mappings → Bool → List Mappings → Type 0
IsMet i answer maps true new =
    IsUnknownAt maps i answer.source × (new ≡ with_known maps i (met answer.source answer.source_hw))
IsMet i answer maps false new = IsKnownAt maps i answer.source × (new ≡ maps)

-- Each seat knows at most 512 mappings.
abbrev pub AreFew : List Mappings → Type 0
AreFew maps = Each (λ (m : Mappings). length m.known ≤ max_mappings) maps

-- The stamps of the datagrams that are held at a seat for the source of a response, oldest first.
abbrev pub stamps_for : Option Mappings → Answer → List (Option ℕ)
stamps_for None answer = []
stamps_for (Some m) answer = map (λ h. h.stamp) (filter (is_for answer.source) m.held)

-- A response was learnt at the seat of the port on which it came: its mapping is known, and the datagrams that were held
-- for its source were put on the cable; if there is no such seat, nothing was added.
abbrev pub IsLearntBy : Option ℕ → Answer → Cabling × List Mappings → Cabling × List Mappings → Type 0
IsLearntBy None answer old new = Adds old.0 new.0 [] × (new.1 ≡ old.1)
IsLearntBy (Some i) answer old new =
    AreReleased answer.source_hw (stamps_for (slice_get old.1 i) answer) old.0 new.0 × (new.1 ≡ with_learnt old.1 i answer)

-- The response was learnt, if there was one.
abbrev pub IsTold : List Seat → ℕ → Option Answer → Cabling × List Mappings → Cabling × List Mappings → Type 0
IsTold seats station None old new = Adds old.0 new.0 [] × (new.1 ≡ old.1)
IsTold seats station (Some answer) old new = IsLearntBy (seat_by seats station answer.port) answer old new

-- Only the datagrams that are held may differ.
pub record KnowsSame (old new : Knowing) : Type 0 where
  pub others : new ≡ record old { maps = new.maps }
  pub known : map (λ (m : Mappings). m.known) new.maps ≡ map (λ (m : Mappings). m.known) old.maps
