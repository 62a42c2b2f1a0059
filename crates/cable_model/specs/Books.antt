-- How cables store their transcript and the pending pairs.
use Rattle.std.specs.Prelude.{◌≡◌, ℕ, ◌+◌, ◌≤◌, ◌<◌, ◌^◌, Bool, ◌&&◌, ◌==◌, List, [], ◌∷◌, ◌++◌, map, length, slice_get, cond}
use Rattle.std.specs.Prelude.{Contains, IsTrue, Option, Some, None, true, false, vec_len, vec_capacity, ◌*◌}
use Rattle.std.specs.List.{list_all, list_any, AllByRecursion as Each}
use Rattle.cable_model.specs.Waits.{hold_key, pair_key}
use Rattle.cable_model.specs.declared.due.Due.{Due}
use Rattle.cable_model.specs.declared.entry.Entry.{Entry as Line}
use Rattle.cable_model.specs.declared.entry.Entry.TheVariants as line
use Rattle.cable_model.specs.declared.log.Log.{Log}
use Rattle.cable_model.specs.declared.putting.HeldLine.{HeldLine}
use Rattle.cable_model.specs.declared.seat.Seat.{Seat}
use Rattle.cable_model.specs.Logs.{bytes_at, entry_at}
use Rattle.cable_model.specs.Order.{in_order}
use Rattle.cable_model.specs.Outcomes.{Held, held_at}
use Rattle.cable_model.specs.Holdings.{still_held}
use Rattle.cable_model.specs.Pending.{Pair, pending}
use Rattle.cable_model.specs.Transcript.{AreNumbered, ArePutOnce, Entry, Frame, Hold, Holding, Put, Took, Lost, count, has_put, is_plain}
use Rattle.cable_model.specs.Transcript.{next_stamp}
use Rattle.cable_model.specs.Ways.{all_lines}
use Rattle.station.specs.declared.heard.Kind.TheVariants.{Ddp}
use Rattle.station.specs.declared.output.Output.{Output}
use Rattle.cable_model.specs.Places.{widest}

-- the transcript of a log
abbrev pub said : Log → List Entry
said log = map (entry_at log.kept.items) log.lines.items

-- the datagrams of a log that are to be held
abbrev pub held : Log → List Held
held log = map (held_at log.kept.items) log.waiting.items

-- the frame of an entry that puts one
abbrev pub frame_of : Option Entry → Frame
frame_of (Some (Put f)) = f
frame_of _ = record { stamp = 0; cable = 0; sender = 0; to = record { 0 = [] }; kind = Ddp; bytes = [] }

-- the seat with an index
abbrev pub seat_at : List Seat → ℕ → Seat
seat_at seats k = or_none (slice_get seats k)
  where
    or_none : Option Seat → Seat
    or_none (Some s) = s
    or_none None = record { cable = 0; station = 0; port = 0; hw = record { 0 = [] }; group = None }

-- the pair that is stored by the indices of its frame's entry and of its seat
abbrev pub pair_at : List Seat → List Entry → Due → Pair
pair_at seats entries d = record { frame = frame_of (slice_get entries d.put); seat = seat_at seats d.seat }

-- the indices of the stored pair are those of a frame with its stamp, and of a seat of its station
pub record IsDue (seats : List Seat) (entries : List Entry) (d : Due) : Type 0 where
  pub seat : d.seat < length seats
  pub frame : Frame
  pub put : slice_get entries d.put ≡ Some (Put frame)
  pub stamp : frame.stamp ≡ d.stamp
  pub station : (seat_at seats d.seat).station ≡ d.station

-- each station has at most one seat on a cable
abbrev pub HasOneSeat : List Seat → Type 0
HasOneSeat seats = (cable station : ℕ) → count (λ s. s.cable == cable && s.station == station) seats ≤ 1

-- the stored pairs of a frame and the seats that pass a test, where the first seat has the index k
abbrev pub dues : (Seat → Bool) → ℕ → ℕ → ℕ → List Seat → List Due
dues test stamp put k [] = []
dues test stamp put k (s ∷ ss) =
    cond (test s) (record { stamp = stamp; station = s.station; put = put; seat = k } ∷ dues test stamp put (k + 1) ss)
    (dues test stamp put (k + 1) ss)

-- the datagram of an entry that holds one
abbrev pub holding_of : Option Entry → Holding
holding_of (Some (Hold h)) = h
holding_of _ = record { stamp = 0; cable = 0; station = 0; next = record { net = 0; node = 0 }; bytes = [] }

-- the held datagram that is stored by the index of its entry
abbrev pub hold_at : List Entry → Due → Holding
hold_at entries d = holding_of (slice_get entries d.put)

-- the index of what is stored is that of a datagram that was held with its stamp by its station
pub record IsHeldAt (entries : List Entry) (d : Due) : Type 0 where
  pub held : Holding
  pub put : slice_get entries d.put ≡ Some (Hold held)
  pub stamp : held.stamp ≡ d.stamp
  pub station : held.station ≡ d.station

-- the bytes that an entry names are among the first k stored ones
abbrev pub Names : ℕ → Line → Type 0
Names k (line.Sent station n) = n < k
Names k (line.Put stamp cable sender to kind n) = n < k
Names k (line.Took stamp station) = Unit {0}
Names k (line.Reached cable station how n) = n < k
Names k (line.Dropped router cause n) = n < k
Names k (line.Lost stamp) = Unit {0}
Names k (line.Hold stamp cable station next n) = n < k

-- the entry neither puts a frame nor ends a pair, and holds nothing
abbrev pub IsQuiet : Line → Type 0
IsQuiet (line.Sent station n) = Unit {0}
IsQuiet (line.Reached cable station how n) = Unit {0}
IsQuiet (line.Dropped router cause n) = Unit {0}
IsQuiet _ = ⊥

-- the entry ends only pairs of frames, and holdings, with stamps below n
abbrev pub EndsBelow : ℕ → Entry → Type 0
EndsBelow n (Took stamp station) = stamp < n
EndsBelow n (Lost stamp) = stamp < n
EndsBelow n _ = Unit {0}

-- the entry takes the frame with this stamp
abbrev pub has_took : ℕ → Entry → Bool
has_took stamp (Took took station) = stamp == took
has_took stamp _ = false

-- The invariant of a log: entries name stored bytes, the next stamp is known, no two frames have the same stamp, frames are
-- numbered where nothing was held, and what was taken had been put; the stored pairs are the pending ones, by stamp and then
-- by station, and the stored holdings are those that no entry ended, by stamp.
pub record IsBook (seats : List Seat) (log : Log) : Type 0 where
  pub named : Each (Names (length log.kept.items)) log.lines.items
  pub waits : Each (λ w. w.bytes < length log.kept.items) log.waiting.items
  pub next : log.next_stamp ≡ next_stamp (said log)
  pub once : ArePutOnce (said log)
  pub numbered : IsTrue (list_all is_plain (said log)) → AreNumbered 0 (said log)
  pub below : Each (EndsBelow log.next_stamp) (said log)
  pub put_first : (stamp : ℕ) → list_any (has_took stamp) (said log) ≡ true → list_any (has_put stamp) (said log) ≡ true
  pub due : Each (IsDue seats (said log)) log.due.dues
  pub pending : map (pair_at seats (said log)) log.due.dues ≡ in_order pair_key (pending seats (said log))
  pub held : Each (IsHeldAt (said log)) log.holdings.dues
  pub holdings : map (hold_at (said log)) log.holdings.dues ≡ in_order hold_key (still_held (said log))

-- Entries were added to a log, and the numbers of stored bytes still name the same bytes.
pub record Tells (old new : Log) (entries : List Entry) : Type 0 where
  pub said : said new ≡ said old ++ entries
  pub lines : (further : List Line) × (new.lines.items ≡ old.lines.items ++ further)
  pub kept : (further : List (List ℕ)) × (new.kept.items ≡ old.kept.items ++ further)

-- Entries and datagrams that are to be held were added to a log, and nothing else changed.
pub record Grows (old new : Log) (entries : List Entry) (more : List Held) : Type 0 where
  pub said : said new ≡ said old ++ entries
  pub held : held new ≡ held old ++ more
  pub lines : (further : List Line) × (new.lines.items ≡ old.lines.items ++ further)
  pub kept : (further : List (List ℕ)) × (new.kept.items ≡ old.kept.items ++ further)

-- the log has room for l entries, k stored bytes, w datagrams that are to be held, and d pairs
pub record HasRoom (log : Log) (l k w d : ℕ) : Type 0 where
  pub lines : vec_len log.lines + l ≤ vec_capacity log.lines
  pub kept : length log.kept.items + k ≤ log.kept.room
  pub waiting : vec_len log.waiting + w ≤ vec_capacity log.waiting
  pub due : length log.due.dues + d ≤ log.due.room
  pub line_numbers : vec_len log.lines + l < 2 ^ 32
  pub byte_numbers : length log.kept.items + k < 2 ^ 32
  pub stamps : log.next_stamp + l < 2 ^ 32

-- the log has room for the outputs where all datagrams among them may be held, on cables with n seats
pub record HasHeldRoom (log : Log) (os : List Output) (n : ℕ) : Type 0 where
  pub room : HasRoom log (all_lines os + 2 * length os) (2 * length os) (length os) (length os * n)
  pub holdings : length log.holdings.dues + length os ≤ log.holdings.room

-- at most l entries, k stored bytes, w datagrams that are to be held and d pairs of the room were used
pub record Uses (old new : Log) (l k w d : ℕ) : Type 0 where
  pub lines : vec_len new.lines ≤ vec_len old.lines + l
  pub kept : length new.kept.items ≤ length old.kept.items + k
  pub waiting : vec_len new.waiting ≤ vec_len old.waiting + w
  pub due : length new.due.dues ≤ length old.due.dues + d
  pub next_stamp : new.next_stamp ≤ old.next_stamp + l
  pub lines_room : vec_capacity new.lines ≡ vec_capacity old.lines
  pub kept_room : new.kept.room ≡ old.kept.room
  pub waiting_room : vec_capacity new.waiting ≡ vec_capacity old.waiting
  pub due_room : old.due.room ≤ new.due.room
  pub grown : vec_len old.lines ≤ vec_len new.lines
  pub steady : new.next_stamp + vec_len old.lines ≤ old.next_stamp + vec_len new.lines
  pub holdings : length new.holdings.dues ≤ length old.holdings.dues
  pub holdings_room : old.holdings.room ≤ new.holdings.room

-- The invariant of cables, where a station has at most one seat on a cable.
pub record IsKept (seats : List Seat) (limit : ℕ) (log : Log) : Type 0 where
  pub book : IsBook seats log
  pub few : vec_len log.lines ≤ limit
  pub named : length log.kept.items ≤ vec_len log.lines
  pub frames : log.next_stamp ≤ vec_len log.lines
  pub idle : log.waiting.items ≡ []
  pub one_seat : HasOneSeat seats

-- The log has room for so many further entries, each of which may put a frame, within the limit.
pub record HasSpare (seats : List Seat) (limit : ℕ) (log : Log) (spare : ℕ) : Type 0 where
  pub lines : vec_len log.lines + spare ≤ vec_capacity log.lines
  pub kept : length log.kept.items ≤ log.kept.room
  pub due : length log.due.dues + spare * widest seats ≤ log.due.room
  pub within : vec_len log.lines + spare ≤ limit

-- The log has room for the further entries, if any.
abbrev pub IsSpare : List Seat → ℕ → Log → ℕ → Type 0
IsSpare seats limit log spare = 0 < spare → HasSpare seats limit log spare

-- the stored place is that of a held datagram with this stamp
pub record IsStored (entries : List Entry) (stamp : ℕ) (d : Due) : Type 0 where
  pub at : IsHeldAt entries d
  pub of_stamp : d.stamp ≡ stamp
  pub there : Contains (still_held entries) (hold_at entries d)

-- the datagram that an entry holds, as it is stored
abbrev pub line_of : Line → Option HeldLine
line_of (line.Hold stamp cable station next n) = Some (record { stamp = stamp; cable = cable; station = station; bytes = n })
line_of _ = None

-- the line is that of a held datagram with this stamp
pub record IsHeldLine (log : Log) (stamp : ℕ) (l : HeldLine) : Type 0 where
  pub held : Holding
  pub there : Contains (still_held (said log)) held
  pub of_stamp : held.stamp ≡ stamp
  pub same_stamp : l.stamp ≡ held.stamp
  pub cable : l.cable ≡ held.cable
  pub station : l.station ≡ held.station
  pub bytes : bytes_at log.kept.items l.bytes ≡ held.bytes
  pub named : l.bytes < length log.kept.items

-- one more datagram is held, and pairs and room are the same
pub record HoldsMore (old new : Log) : Type 0 where
  pub lines_room : vec_capacity new.lines ≡ vec_capacity old.lines
  pub due : new.due ≡ old.due
  pub more : length new.holdings.dues ≡ length old.holdings.dues + 1
  pub holdings_room : old.holdings.room ≤ new.holdings.room

-- The logs differ in the datagram that is to be held alone, and there is the same room for it.
pub record IsSameButWaiting (old new : Log) : Type 0 where
  pub lines : new.lines ≡ old.lines
  pub kept : new.kept ≡ old.kept
  pub due : new.due ≡ old.due
  pub holdings : new.holdings ≡ old.holdings
  pub next_stamp : new.next_stamp ≡ old.next_stamp
  pub waiting_room : vec_capacity new.waiting ≡ vec_capacity old.waiting

-- What was used of the room where the datagram that was to be held, if there was one, is held, on cables with n seats.
pub record Settles (old new : Log) (n : ℕ) : Type 0 where
  pub none : old.waiting.items ≡ [] → IsSameButWaiting old new
  pub lines : vec_len new.lines ≤ vec_len old.lines + 3
  pub kept : length new.kept.items ≤ length old.kept.items + 1
  pub due : length new.due.dues ≤ length old.due.dues + n
  pub next_stamp : new.next_stamp ≤ old.next_stamp + 3
  pub holdings : length new.holdings.dues ≤ length old.holdings.dues + 1
  pub lines_room : vec_capacity new.lines ≡ vec_capacity old.lines
  pub kept_room : new.kept.room ≡ old.kept.room
  pub waiting_room : vec_capacity new.waiting ≡ vec_capacity old.waiting
  pub due_room : old.due.room ≤ new.due.room
  pub holdings_room : old.holdings.room ≤ new.holdings.room
  pub grown : vec_len old.lines ≤ vec_len new.lines
  pub steady : new.next_stamp + vec_len old.lines ≤ old.next_stamp + vec_len new.lines
  pub named : length new.kept.items + vec_len old.lines ≤ length old.kept.items + vec_len new.lines

-- The contents of the logs are equal, and there is no less room.
pub record IsSame (old new : Log) : Type 0 where
  pub lines : new.lines.items ≡ old.lines.items
  pub kept : new.kept.items ≡ old.kept.items
  pub waiting : new.waiting.items ≡ old.waiting.items
  pub due : new.due.dues ≡ old.due.dues
  pub holdings : new.holdings.dues ≡ old.holdings.dues
  pub next_stamp : new.next_stamp ≡ old.next_stamp
  pub lines_room : vec_capacity old.lines ≤ vec_capacity new.lines
  pub kept_room : old.kept.room ≤ new.kept.room
  pub due_room : old.due.room ≤ new.due.room
