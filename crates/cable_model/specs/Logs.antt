-- Transcripts as they are stored: entries name bytes by number.
use Rattle.std.specs.Prelude.{List, None, Option, Some, [], map, slice_get, ℕ, ◌++◌, ◌≡◌}
use Rattle.ddp.specs.Bodies.{body}
use Rattle.cable_model.specs.declared.entry.Entry.{Entry as Line}
use Rattle.cable_model.specs.declared.entry.Entry.TheVariants as line
use Rattle.cable_model.specs.declared.room.Rooms.{Rooms}
use Rattle.cable_model.specs.declared.seat.Seat.{Seat}
use Rattle.cable_model.specs.Pending.{Pair, pending}
use Rattle.cable_model.specs.Transcript.{Entry, Sent, Put, Took, Reached, Dropped, Lost, Hold}

-- The state of cables: the seats on them, the greatest number of entries, the room that calls need, the entries, the
-- bytes that these name, and the number of further entries for which room was made.
pub record Cabling : Type 0 where
  pub seats : List Seat
  pub limit : ℕ
  pub rooms : Rooms
  pub lines : List Line
  pub kept : List (List ℕ)
  pub spare : ℕ

-- the bytes with a number, or none for a number that no entry has
abbrev pub bytes_at : List (List ℕ) → ℕ → List ℕ
bytes_at kept n = or_none (slice_get kept n)
  where
    or_none : Option (List ℕ) → List ℕ
    or_none None = []
    or_none (Some bytes) = bytes

-- the entry with its bytes: a datagram is given by its body, a frame with all its bytes
abbrev pub entry_at : List (List ℕ) → Line → Entry
entry_at kept (line.Sent station n) = Sent station (body (bytes_at kept n))
entry_at kept (line.Put stamp cable sender to kind n) =
    Put (record { stamp = stamp; cable = cable; sender = sender; to = to; kind = kind; bytes = bytes_at kept n })
entry_at kept (line.Took stamp station) = Took stamp station
entry_at kept (line.Reached cable station how n) = Reached cable station how (body (bytes_at kept n))
entry_at kept (line.Dropped router cause n) = Dropped router cause (body (bytes_at kept n))
entry_at kept (line.Lost stamp) = Lost stamp
entry_at kept (line.Hold stamp cable station next n) =
    Hold (record { stamp = stamp; cable = cable; station = station; next = next; bytes = bytes_at kept n })

-- the transcript of cables
abbrev pub transcript : Cabling → List Entry
transcript c = map (entry_at c.kept) c.lines

-- the pairs that are pending on cables
abbrev pub pending_on : Cabling → List Pair
pending_on c = pending c.seats (transcript c)

-- Entries were added to the transcript, and nothing else changed: the numbers of stored bytes still name the same
-- bytes.
pub record Adds (old new : Cabling) (entries : List Entry) : Type 0 where
  pub seats : new.seats ≡ old.seats
  pub limit : new.limit ≡ old.limit
  pub rooms : new.rooms ≡ old.rooms
  pub added : transcript new ≡ transcript old ++ entries
  pub further : (more : List Line) × (new.lines ≡ old.lines ++ more)
  pub kept : (more : List (List ℕ)) × (new.kept ≡ old.kept ++ more)
