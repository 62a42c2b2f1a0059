-- The frames that a seat's station puts on its cable.
use Rattle.std.specs.Prelude.{◌≡◌, ◌⊎◌, ◌↔◌, ◌<◌, ◌≤◌, ◌==◌, ◌++◌, ℕ, cond, false, List, [], ◌∷◌, length, nat_le, Option, Some, None}
use Rattle.std.specs.Prelude.{slice_get, option_and_then}
use Rattle.std.specs.List.{list_any}
use Rattle.aarp.specs.Packets.{packet, written}
use Rattle.at_base.specs.Spelling.{Spells}
use Rattle.at_base.specs.declared.address.Addr.{Addr}
use Rattle.at_base.specs.declared.address.Hw.{Hw}
use Rattle.at_base.specs.declared.error.Error.{Error}
use Rattle.at_base.specs.declared.error.Error.TheVariants.{Full}
use Rattle.at_base.specs.Multicast.{all_hw}
use Rattle.cable_model.specs.Logs.{Adds, Cabling, transcript, pending_on}
use Rattle.cable_model.specs.Outcomes.{IsHeard, framed, has_cable, is_named, is_seated}
use Rattle.cable_model.specs.Outgoing.{IsSent}
use Rattle.cable_model.specs.Transcript.{next_stamp}
use Rattle.cable_model.specs.declared.seat.Seat.{Seat}
use Rattle.live_cables.specs.Finding.{Knowing, answer_of, own_or_none, places_of, request_for, seat_by}
use Rattle.live_cables.specs.Holding.{Holds}
use Rattle.live_cables.specs.Steps.{HasNoRoom}
use Rattle.live_cables.specs.declared.answer.Answer.{Answer}
use Rattle.station.specs.Hearing.{Hearing}
use Rattle.station.specs.declared.heard.Kind.{Kind}
use Rattle.station.specs.declared.heard.Kind.TheVariants.{Aarp}
use Rattle.station.specs.declared.output.Next.{Next}
use Rattle.station.specs.declared.output.Output.{Output}
use Rattle.station.specs.declared.output.Output.TheVariants.{Made, Wire}

-- The seat's station has no seat on the seat's cable, or there is no such cable.
abbrev pub IsNowhere : Seat → Cabling → Type 0
IsNowhere s c = (has_cable c.seats s.cable ≡ false) ⊎ (is_seated c.seats s.cable s.station ≡ false)

-- A frame was put on the cable of a seat; or nothing changed, because the station isn't on it or the frame is too long.
abbrev pub IsPut : Seat → Hw → Kind → List ℕ → Cabling → Cabling → Type 0
IsPut s to kind bytes old new =
    Adds old new (framed (record { stamp = next_stamp (transcript old); cable = s.cable; station = s.station }) to kind bytes ∷ [])
    ⊎ ((new ≡ old) × (IsNowhere s old ⊎ (599 < length bytes)))

-- A seat's station sent an AARP request for an address on its cable; if there is no seat, nothing changed.
abbrev pub IsAsked : Option Seat → Option (Option Addr) → Addr → Cabling → Cabling → Type 0
IsAsked None own a old new = new ≡ old
IsAsked (Some s) own a old new =
    (bytes : List ℕ) × Spells packet bytes (written (request_for s.hw (own_or_none own) a)) × IsPut s all_hw Aarp bytes old new

-- A seat's station sent an AARP request for each of these addresses, in order.
abbrev pub AreAsked : Option Seat → Option (Option Addr) → List Addr → Cabling → Cabling → Type 0
AreAsked seat own [] old new = new ≡ old
AreAsked seat own (a ∷ more) old new = (mid : Cabling) × IsAsked seat own a old mid × AreAsked seat own more mid new

-- A seat's station sent a datagram that it made, which was held if its next address wasn't known; or nothing changed,
-- because the station isn't on the cable or the datagram is too long.
abbrev pub IsMade : Seat → Next → List ℕ → Cabling × Knowing → Cabling × Knowing → Type 0
IsMade s next bytes old new =
    IsSent places_of Holds old.0 new.0 s.cable s.station next bytes old.1 new.1
    ⊎ ((new.0 ≡ old.0) × (new.1 ≡ old.1) × (IsNowhere s old.0 ⊎ (599 < length bytes)))

-- An output of a station was sent: a datagram that it made, or an AARP frame; nothing changed if it has no seat for the
-- port, or if the output is of another kind.
abbrev pub IsGiven : ℕ → Output → Cabling × Knowing → Cabling × Knowing → Type 0
IsGiven station (Made port next bytes) old new = by (option_and_then (slice_get old.1.seats) (seat_by old.1.seats station port))
  where
    by : Option Seat → Type 0
    by None = (new.0 ≡ old.0) × (new.1 ≡ old.1)
    by (Some s) = IsMade s next bytes old new
IsGiven station (Wire port to bytes) old new = by (option_and_then (slice_get old.1.seats) (seat_by old.1.seats station port))
  where
    by : Option Seat → Type 0
    by None = (new.0 ≡ old.0) × (new.1 ≡ old.1)
    by (Some s) = IsPut s to Aarp bytes old.0 new.0 × (new.1 ≡ old.1)
IsGiven station _ old new = (new.0 ≡ old.0) × (new.1 ≡ old.1)

-- The entries for which the cables need room before these bytes are sent by a seat: so many, but none without a seat, or for
-- bytes that don't fit a frame.
abbrev pub room_by : Option Seat → List ℕ → ℕ → ℕ
room_by None bytes more = 0
room_by (Some s) bytes more = cond (nat_le (length bytes) 599) more 0

-- The entries for which the cables need room before an output of a station is sent: 5 for a datagram, 1 for an AARP frame.
abbrev pub room_of : List Seat → ℕ → Output → ℕ
room_of seats station (Made port next bytes) = room_by (option_and_then (slice_get seats) (seat_by seats station port)) bytes 5
room_of seats station (Wire port to bytes) = room_by (option_and_then (slice_get seats) (seat_by seats station port)) bytes 1
room_of seats station _ = 0

-- The same of the first of these outputs that needs room, and 0 if none does.
abbrev pub first_room : List Seat → ℕ → List Output → ℕ
first_room seats station [] = 0
first_room seats station (o ∷ os) = cond (room_of seats station o == 0) (first_room seats station os) (room_of seats station o)

-- The outputs of a station were sent, in order.
abbrev pub AreGiven : ℕ → List Output → Cabling × Knowing → Cabling × Knowing → Type 0
AreGiven station [] old new = (new.0 ≡ old.0) × (new.1 ≡ old.1)
AreGiven station (o ∷ os) old new =
    (mid : Cabling × Knowing) × IsGiven station o old mid × AreGiven station os mid new

-- The first outputs of a station were sent, and the next one was refused by this error, which is Full where there is too
-- little room for that output, and only there. It is taken out of the queue, and those behind it are left.
pub record AreGivenUpTo (e : Error) (station : ℕ) (outputs left : List Output) (old new : Cabling × Knowing) : Type 0 where
  pub sent : List Output
  pub next : Output
  pub all : outputs ≡ sent ++ next ∷ left
  pub given : AreGiven station sent old new
  pub needs : 1 ≤ room_of new.1.seats station next
  pub full : (e ≡ Full) ↔ HasNoRoom (room_of new.1.seats station next) new.0

-- This is the content of the AARP response in a frame that is pending for a station, or None if the frame is no
-- response or isn't pending.
abbrev pub IsAnswer : Cabling → ℕ → ℕ → Option Answer → Type 0
IsAnswer c stamp station answer =
    ((h : Hearing) × IsHeard (pending_on c) stamp station h × (answer ≡ answer_of h))
    ⊎ ((list_any (is_named stamp station) (pending_on c) ≡ false) × (answer ≡ None))
