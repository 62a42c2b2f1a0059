-- The steps of one call on live cables.
use Rattle.std.specs.Prelude.{◌≡◌, ◌⊎◌, ◌<◌, ◌+◌, ℕ, Bool, true, false, not, ◌&&◌, cond, drop, length, slice_get, Contains}
use Rattle.std.specs.Prelude.{IsTrue, List, [], ◌∷◌, ◌++◌}
use Rattle.std.specs.List.{list_any}
use Rattle.std.specs.Option.{unwrap_or}
use Rattle.cable_model.specs.Holdings.{is_open}
use Rattle.cable_model.specs.Logs.{Cabling, transcript, pending_on}
use Rattle.cable_model.specs.Outcomes.{heard_by}
use Rattle.cable_model.specs.Pending.{Pair}
use Rattle.cable_model.specs.Rooms.{take_lines}
use Rattle.cable_model.specs.Transcript.{Entry, Took, Lost}
use Rattle.cable_model.specs.declared.entry.Entry.{Entry as Line}
use Rattle.cable_model.specs.declared.entry.Entry.TheVariants as line
use Rattle.live_cables.specs.Playing.{is_in, losses}
use Rattle.station.specs.Hearing.{Hearing}
use Rattle.station.specs.Lawful.{IsNext}
use Rattle.station.specs.declared.output.Output.{Output}
use Rattle.station.specs.declared.output.Output.TheVariants.{Made}

-- The limit leaves no room for `more` further entries.
abbrev pub HasNoRoom : ℕ → Cabling → Type 0
HasNoRoom more c = c.limit < length c.lines + more

-- the most entries that a take may add where stations ask for hardware addresses
abbrev pub most_taken : ℕ
most_taken = take_lines 2

-- The entry ends no pair: it takes no frame, and loses at most a datagram that is held.
abbrev pub is_calm : List Entry → Entry → Bool
is_calm before (Took stamp station) = false
is_calm before (Lost stamp) = is_open before stamp
is_calm before _ = true

-- The entries end no pairs.
abbrev pub are_calm : List Entry → List Entry → Bool
are_calm before [] = true
are_calm before (e ∷ es) = is_calm before e && are_calm (before ++ e ∷ []) es

-- Entries were added that end no pair; the seats and the limit stay the same.
pub record Puts (old new : Cabling) : Type 0 where
  pub added : List Entry
  pub grown : transcript new ≡ transcript old ++ added
  pub calm : IsTrue (are_calm (transcript old) added)
  pub seats : new.seats ≡ old.seats
  pub limit : new.limit ≡ old.limit

-- The entry is the loss of one of these frames.
abbrev pub is_loss : List ℕ → Entry → Bool
is_loss stamps (Lost stamp) = is_in stamps stamp
is_loss stamps _ = false

-- The entries are losses of some of these frames, in the order of their stamps in the list.
abbrev pub AreLossesOf : List ℕ → List Entry → Type 0
AreLossesOf stamps [] = Unit {0}
AreLossesOf [] (e ∷ es) = ⊥
AreLossesOf (s ∷ ss) (e ∷ es) = ((e ≡ Lost s) × AreLossesOf ss es) ⊎ AreLossesOf ss (e ∷ es)

-- Entries were added that are losses of these frames, in their order; the seats and the limit stay the same.
pub record Loses (stamps : List ℕ) (old new : Cabling) : Type 0 where
  pub added : List Entry
  pub grown : transcript new ≡ transcript old ++ added
  pub losses : AreLossesOf stamps added
  pub seats : new.seats ≡ old.seats
  pub limit : new.limit ≡ old.limit

-- None of these frames is pending.
abbrev pub are_gone : List ℕ → Cabling → Bool
are_gone stamps c = not (list_any (λ p. is_in stamps p.frame.stamp) (pending_on c))

-- The cable loses the frames that are put on it; a cable past the end of the list loses none.
abbrev pub loses_by : List Bool → ℕ → Bool
loses_by losing cable = unwrap_or (slice_get losing cable) false

-- The stamps of the frames that the entries from an index on put on cables that lose frames.
abbrev pub losses_since : List Bool → ℕ → Cabling → List ℕ
losses_since losing from c = losses (loses_by losing) (drop from (transcript c))

-- The stamps of the frames that the kept lines put on cables that lose frames.
abbrev pub line_losses : (ℕ → Bool) → List Line → List ℕ
line_losses losing [] = []
line_losses losing (line.Put stamp cable sender to kind n ∷ ls) =
    cond (losing cable) (stamp ∷ line_losses losing ls) (line_losses losing ls)
line_losses losing (l ∷ ls) = line_losses losing ls

-- The next receiver of a datagram that a station made is valid: a group's number is below 253.
abbrev pub IsSendable : Output → Type 0
IsSendable (Made port next bytes) = IsNext next
IsSendable _ = Unit {0}

-- A station took a frame that was pending for it and sent its outputs, and the further entries end no pair; the seats
-- and the limit stay the same.
pub record Takes (old new : Cabling) (stamp station : ℕ) (Hears : Hearing → List Output → Type 0) : Type 0 where
  pub pair : Pair
  pub was_pending : Contains (pending_on old) pair
  pub of_stamp : pair.frame.stamp ≡ stamp
  pub of_station : pair.seat.station ≡ station
  pub put_out : List Output
  pub hears : Hears (heard_by pair) put_out
  pub rest : List Entry
  pub grown : transcript new ≡ transcript old ++ Took stamp station ∷ rest
  pub calm : IsTrue (are_calm (transcript old ++ Took stamp station ∷ []) rest)
  pub seats : new.seats ≡ old.seats
  pub limit : new.limit ≡ old.limit
