-- The questions that wait for answers. (This project's own; the pages of a list are of the chapter on ZIP)
use Rattle.std.specs.Prelude.{ℕ, ◌+◌, ◌-◌, ◌*◌, ◌==◌, Bool, false, true, not, ◌&&◌, ◌||◌, List, [], ◌∷◌, Option, Some, None, min, nat_le, nat_lt}
use Rattle.std.specs.Prelude.{slice_index, if◌then◌else◌}
use Rattle.atp.specs.InPlace.{transaction_in}
use Rattle.atp.specs.Packets.{AtpPacket}
use Rattle.ddp.specs.Datagram.{Datagram}
use Rattle.survey.specs.Answers.{count_listed, is_answer}
use Rattle.survey.specs.Known.{pushed}
use Rattle.survey.specs.Questions.{is_plural}
use Rattle.survey.specs.declared.question.Question.{Question}
use Rattle.survey.specs.declared.question.Wanted.{Wanted}
use Rattle.survey.specs.declared.question.Wanted.TheVariants.{Echo, Routes, Zones, List as ListOf, Names}
use Rattle.survey.specs.declared.slots.Open.{Open}
use Rattle.survey.specs.declared.slots.Told.{Told}
use Rattle.survey.specs.declared.slots.Told.TheVariants.{Answered, Silent}
use Rattle.zip_zones.specs.declared.zone_function.ZoneFunction.{ZoneFunction}
use Rattle.zip_zones.specs.declared.zone_function.ZoneFunction.TheVariants.{GetMyZone, GetZoneList, GetLocalZones}

-- a question that wasn't asked yet, with its ID
abbrev pub first_open : Question → ℕ → Open
first_open q id = record { question = q; id = id; times = 0; wait = 0; is_answered = false }

-- a question that is asked now: for the ten ticks after this one an answer is waited for
abbrev pub asked : Open → Open
asked o = record o { times = min (o.times + 1) 255; wait = 11 }

-- ---- A tick

-- a question a tick later
abbrev pub aged : Open → Open
aged o = record o { wait = o.wait - 1 }

-- nothing more is done with a question: it was waited for, and was asked three times, or was answered by the only station
-- that may answer it
abbrev pub is_over : Open → Bool
is_over o = o.wait == 0 && (nat_le 3 o.times || o.is_answered && not (is_plural o.question))

-- a slot a tick later
abbrev pub passed : Option Open → Option Open
passed None = None
passed (Some o) = if is_over (aged o) then None else Some (aged o)

-- what happened, and that no answer came, if a tick later the question in a slot is given up without one
abbrev pub silent_told : List Told → Option Open → List Told
silent_told told None = told
silent_told told (Some o) = if is_over (aged o) && not (aged o).is_answered then pushed (Silent (aged o)) told else told

-- the first of these slots, which are numbered from k, whose question has to be asked once more
abbrev pub due : ℕ → List (Option Open) → Option (ℕ × Open)
due k [] = None
due k (None ∷ slots) = due (k + 1) slots
due k (Some o ∷ slots) = if o.wait == 0 then Some (k, o) else due (k + 1) slots

-- a slot is free
abbrev pub is_free : Option Open → Bool
is_free None = true
is_free (Some o) = false

-- the first of these slots, which are numbered from k, that is free
abbrev pub free : ℕ → List (Option Open) → Option ℕ
free k [] = None
free k (None ∷ slots) = Some k
free k (Some o ∷ slots) = free (k + 1) slots

-- ---- A datagram

-- the datagram answers the question in a slot
abbrev pub is_answered : Datagram → Option Open → Bool
is_answered d None = false
is_answered d (Some o) = is_answer o.question o.id d

-- the index of the next page of a list, if this isn't the last one, and the list goes on within 1,024 zones
abbrev pub next_page : ℕ → AtpPacket → Option ℕ
next_page start p =
    if not (slice_index p.user 0 == 0) || count_listed p == 0 || nat_lt 1024 start || nat_lt (1024 - start) (count_listed p) then None
    else Some (start + count_listed p)

-- the index from which on a list is asked for once more, if it is
abbrev pub next_start : ZoneFunction → ℕ → Option AtpPacket → Option ℕ
next_start GetMyZone start p = None
next_start GetZoneList start None = None
next_start GetZoneList start (Some p) = next_page start p
next_start GetLocalZones start None = None
next_start GetLocalZones start (Some p) = next_page start p

-- the question for a list from an index on, if there is one
abbrev pub list_from : Question → ZoneFunction → Option ℕ → Option Question
list_from q function None = None
list_from q function (Some start) = Some (record { to = q.to; wanted = ListOf function start })

-- the question for the next page of a list, after this answer, if there is one
abbrev pub next_question : Question → List ℕ → Option Question
next_question q payload = by q.wanted
  where
    by : Wanted → Option Question
    by Echo = None
    by (Routes horizon) = None
    by (Zones net) = None
    by (ListOf function start) = list_from q function (next_start function start (transaction_in payload))
    by (Names sought) = None

-- a question after its answer: the question for the next page takes its place, with this ID
abbrev pub after_answer : Open → ℕ → Option Question → Open
after_answer o id None = record o { is_answered = true }
after_answer o id (Some q) = first_open q id

abbrev pub answered : Datagram → ℕ → Open → Open
answered d id o = after_answer o id (next_question o.question d.payload)

-- a slot after a datagram; the next page of a list has this ID
abbrev pub heard : Datagram → ℕ → Option Open → Option Open
heard d id None = None
heard d id (Some o) = if is_answer o.question o.id d then Some (answered d id o) else Some o

-- what happened, and that a question was answered, if the datagram does
abbrev pub answered_told : Datagram → List Told → Option Open → List Told
answered_told d told None = told
answered_told d told (Some o) = if is_answer o.question o.id d then pushed (Answered o) told else told
