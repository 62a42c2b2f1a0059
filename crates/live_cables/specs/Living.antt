-- The contents of live cables.
use Rattle.std.specs.Prelude.{Bool, Contains, IsTrue, List, Option, [], false, length, slice_get, take, ℕ, ◌++◌, ◌∷◌, ◌≡◌, ◌<◌, ◌⊎◌, ◌↔◌}
use Rattle.std.specs.Option.{unwrap_or}
use Rattle.aarp.specs.Mapping.{Mappings, shed, to_ask}
use Rattle.at_base.specs.Range.{Span}
use Rattle.at_base.specs.declared.address.Addr.{Addr}
use Rattle.at_base.specs.declared.error.Error.{Error}
use Rattle.at_base.specs.declared.error.Error.TheVariants.{Full}
use Rattle.cable_model.specs.Logs.{Cabling, transcript, pending_on}
use Rattle.cable_model.specs.Outcomes.{heard_by}
use Rattle.cable_model.specs.Outgoing.{IsSent}
use Rattle.cable_model.specs.Pending.{Pair}
use Rattle.cable_model.specs.Transcript.{Entry, Took, count}
use Rattle.live_cables.specs.Finding.{Knowing, held_at as held_in, places_of}
use Rattle.live_cables.specs.Holding.{AreShed, Holds, with_tick}
use Rattle.live_cables.specs.Playing.{IsPlayed, are_lost, is_took}
use Rattle.live_cables.specs.Putting.{AreAsked, AreGiven, AreGivenUpTo}
use Rattle.live_cables.specs.Steps.{HasNoRoom, Loses, are_gone, losses_since, most_taken}
use Rattle.live_cables.specs.Taking.{IsTakenIn}
use Rattle.station.specs.Hearing.{Hearing}
use Rattle.station.specs.declared.output.Next.{Next}
use Rattle.station.specs.declared.output.Output.{Output}

-- The state of live cables: the cables; for each seat its settled address, if it has one, and its mappings; the ranges
-- of the cables; and whether each cable loses frames.
pub record Wires : Type 0 where
  pub cabling : Cabling
  pub own : List (Option Addr)
  pub maps : List Mappings
  pub ranges : List Span
  pub losing : List Bool

-- The cable loses the frames that are put on it.
abbrev pub loses : Wires → ℕ → Bool
loses w cable = unwrap_or (slice_get w.losing cable) false

-- The transcript.
abbrev pub happened : Wires → List Entry
happened w = transcript w.cabling

-- The addresses of the seats, the ranges, and which cables lose frames stay the same.
pub record Stays (old new : Wires) : Type 0 where
  pub own : new.own ≡ old.own
  pub ranges : new.ranges ≡ old.ranges
  pub losing : new.losing ≡ old.losing

-- Entries were added that are allowed on cables that lose frames; the seats, their addresses, the limit, the ranges,
-- and which cables lose frames stay the same.
pub record AddsAllowed (old new : Wires) : Type 0 where
  pub added : List Entry
  pub grown : happened new ≡ happened old ++ added
  pub played : IsPlayed old.cabling.seats (loses old) (happened old) added
  pub seats : new.cabling.seats ≡ old.cabling.seats
  pub limit : new.cabling.limit ≡ old.cabling.limit
  pub own : new.own ≡ old.own
  pub ranges : new.ranges ≡ old.ranges
  pub losing : new.losing ≡ old.losing

-- A call added allowed entries and finished: `taken` frames were taken, and all frames that were put on cables that
-- lose frames are lost.
pub record PlaysOn (taken : ℕ) (old new : Wires) : Type 0 where
  pub plays : AddsAllowed old new
  pub takes : count is_took plays.added ≡ taken
  pub lost : IsTrue (are_lost old.cabling.seats (loses old) (happened old) plays.added)

-- A station heard the frame with this stamp, which was pending for it.
pub record IsHeardFrom (w : Wires) (stamp station : ℕ) (Hears : Hearing → List Output → Type 0) : Type 0 where
  pub pair : Pair
  pub was_pending : Contains (pending_on w.cabling) pair
  pub of_stamp : pair.frame.stamp ≡ stamp
  pub of_station : pair.seat.station ≡ station
  pub put_out : List Output
  pub hears : Hears (heard_by pair) put_out

-- A station took the frame with this stamp, which was pending for it, as the first added entry.
pub record IsTakenBy (old new : Wires) (stamp station : ℕ) (Hears : Hearing → List Output → Type 0) : Type 0 where
  pub heard : IsHeardFrom old stamp station Hears
  pub rest : List Entry
  pub first : happened new ≡ happened old ++ Took stamp station ∷ rest

-- What a station knows.
abbrev pub knowing : Wires → ℕ → Knowing
knowing w station =
    record { station = station; seats = w.cabling.seats; own = w.own; maps = w.maps; ranges = w.ranges }

-- A station's outputs were sent, and then only losses were added, of frames that this call put on cables that lose
-- frames.
abbrev pub GivesOut : ℕ → List Output → Wires → Wires → Type 0
GivesOut station outputs old new =
    (mid : Cabling × Knowing)
    × AreGiven station outputs (old.cabling, knowing old station) mid
    × Loses (losses_since old.losing (length old.cabling.lines) mid.0) mid.0 new.cabling × (new.maps ≡ mid.1.maps)
    × Stays old new

-- The first of a station's outputs were sent, the next one was refused by this error, and nothing else changed.
abbrev pub SendsUpTo : Error → ℕ → List Output → List Output → Wires → Wires → Type 0
SendsUpTo e station outputs left old new =
    (mid : Cabling × Knowing)
    × AreGivenUpTo e station outputs left (old.cabling, knowing old station) mid × (new.cabling ≡ mid.0)
    × (new.maps ≡ mid.1.maps) × Stays old new

-- A frame that a call put on a cable that loses frames is pending still.
abbrev pub IsLossDue : Wires → Cabling → Type 0
IsLossDue old new = are_gone (losses_since old.losing (length old.cabling.lines) new) new ≡ false

-- A loss was refused by this error: a frame that a call put on a cable that loses frames is pending still. The error is
-- Full where there is no room for another loss, and only there.
pub record IsLossRefused (e : Error) (old new : Wires) : Type 0 where
  pub full : (e ≡ Full) ↔ HasNoRoom 1 new.cabling
  pub due : IsLossDue old new.cabling

-- The first of a station's outputs were sent, and the next one was refused by this error; or all of them were sent, and
-- then some of the frames were lost that this call put on cables that lose frames, and the next loss was refused.
abbrev pub GivesInPart : Error → ℕ → List Output → List Output → Wires → Wires → Type 0
GivesInPart e station outputs left old new =
    SendsUpTo e station outputs left old new
    ⊎ (GivesOut station outputs old new × (left ≡ []) × IsLossRefused e old new)

-- There was room for as many entries as a take may need. A station took a frame, resolving addresses by its own mappings,
-- and its outputs were sent, or held; then the mapping of an AARP response was learnt, and the datagrams that were held for
-- it were put; then only losses were added, of frames that this call put on cables that lose frames.
abbrev pub TakesIn : ℕ → ℕ → ℕ → (Hearing → List Output → Type 0) → Wires → Wires → Type 0
TakesIn stamp station ports Hears old new =
    (HasNoRoom most_taken old.cabling → ⊥)
    × (mid : Cabling × Knowing)
    × IsTakenIn stamp station ports Hears (old.cabling, knowing old station) mid
    × Loses (losses_since old.losing (length old.cabling.lines) mid.0) mid.0 new.cabling × (new.maps ≡ mid.1.maps)
    × Stays old new

-- The mappings of a seat advanced by a tick, and AARP requests were sent again; then losses were added, of frames that this
-- call put on cables that lose frames; and then the datagrams that the tick gives up were lost.
abbrev pub PassesFor : ℕ → Wires → Wires → Type 0
PassesFor seat old new =
    (asked : Cabling)
    × AreAsked (slice_get old.cabling.seats seat) (slice_get old.own seat) (to_ask (held_in old.maps seat)) old.cabling asked
    × (lost : Cabling) × Loses (losses_since old.losing (length old.cabling.lines) asked) asked lost
    × AreShed (shed (held_in old.maps seat)) lost new.cabling × (new.maps ≡ with_tick old.maps seat)
    × Stays old new

-- AARP requests for these addresses were sent by the station of a seat.
abbrev pub Asks : ℕ → List Addr → Wires → Cabling → Type 0
Asks seat addrs old new = AreAsked (slice_get old.cabling.seats seat) (slice_get old.own seat) addrs old.cabling new

-- The first datagrams that a seat's tick gives up were lost, and not all, after all frames that its requests put on
-- cables that lose frames.
abbrev pub ShedsInPart : ℕ → Wires → Cabling → Cabling → Type 0
ShedsInPart seat old asked new =
    (lost : Cabling) × Loses (losses_since old.losing (length old.cabling.lines) asked) asked lost
    × IsTrue (are_gone (losses_since old.losing (length old.cabling.lines) asked) lost)
    × (n : ℕ) × (n < length (shed (held_in old.maps seat))) × AreShed (take n (shed (held_in old.maps seat))) lost new

-- The mappings of a seat advanced by a tick, and the first of its AARP requests were sent again, and not all; or all of
-- them were, and then some of the frames were lost that they put on cables that lose frames, and not all; or all of these
-- were, and then the first of the datagrams that the tick gives up.
abbrev pub PassesInPart : ℕ → Wires → Wires → Type 0
PassesInPart seat old new =
    (((n : ℕ) × (n < length (to_ask (held_in old.maps seat)))
    × Asks seat (take n (to_ask (held_in old.maps seat))) old new.cabling)
    ⊎ ((asked : Cabling) × Asks seat (to_ask (held_in old.maps seat)) old asked
    × ((Loses (losses_since old.losing (length old.cabling.lines) asked) asked new.cabling × IsLossDue old new.cabling)
    ⊎ ShedsInPart seat old asked new.cabling)))
    × (new.maps ≡ with_tick old.maps seat) × Stays old new

-- A station sent a datagram that it made over a cable, resolving addresses by its own mappings, and no frame was lost.
abbrev pub IsSentOver : ℕ → ℕ → Next → List ℕ → Wires → Wires → Type 0
IsSentOver station cable next bytes old new =
    (after : Knowing)
    × IsSent places_of Holds old.cabling new.cabling cable station next bytes (knowing old station) after
    × (new.maps ≡ after.maps) × Stays old new

-- A station took a frame, as in `TakesIn`, and no frame was lost.
abbrev pub TakesStill : ℕ → ℕ → ℕ → (Hearing → List Output → Type 0) → Wires → Wires → Type 0
TakesStill stamp station ports Hears old new =
    (after : Knowing)
    × IsTakenIn stamp station ports Hears (old.cabling, knowing old station) (new.cabling, after)
    × (new.maps ≡ after.maps) × Stays old new
