-- Which transcripts are legal for an internet with frozen tables.
use Rattle.std.specs.Prelude.{◌≡◌, ℕ, ◌+◌, List, [], ◌∷◌, ◌++◌, Contains}
use Rattle.std.specs.List.{AllByRecursion as Each}
use Rattle.table_image.specs.Internet.{Internet}
use Rattle.cable_model.specs.Pending.{Pair, pending}
use Rattle.cable_model.specs.Transcript.{Entry, Sent, Took, stamps}
use Rattle.legal_runs.specs.Answers.{Answers, IsMade, IsOwn}
use Rattle.legal_runs.specs.Legs.{Leg, fate, leg}
use Rattle.legal_runs.specs.Stations.{cable_seats}

-- The entries of datagrams that stations made: each is sent and then put on its cable, with stamps from `stamp` on.
abbrev pub said : Internet → ℕ → List Leg → List Entry
said i stamp [] = []
said i stamp (l ∷ ls) = Sent l.station l.body ∷ (leg i stamp l ++ said i (stamp + stamps (leg i stamp l)) ls)

-- The entries that follow a Took: the fate of the pair that was taken, and the datagrams that the station sends in
-- answer.
abbrev pub handled : Internet → ℕ → Pair → List Leg → List Entry
handled i stamp p answers = fate i stamp p ++ said i (stamp + stamps (fate i stamp p)) answers

-- The entries of one event after a transcript: a node sends a datagram, or a station takes a pending frame, with the
-- frame's fate and the station's answers.
pub data Block (i : Internet) (t : List Entry) : List Entry → Type 0 where
  Sends : (l : Leg) → IsMade i l → IsOwn i l → Block i t (said i (stamps t) (l ∷ []))
  Takes : (p : Pair) (answers : List Leg) → Contains (pending (cable_seats i) t) p → Each (IsMade i) answers
      → Each (λ (l : Leg). l.station ≡ p.seat.station) answers → Answers i p answers
      → Block i t (Took p.frame.stamp p.seat.station ∷ handled i (stamps t) p answers)

-- A transcript is legal if it is a sequence of such blocks.
pub data IsLegal (i : Internet) : List Entry → Type 0 where
  Begins : IsLegal i []
  Continues : (t block : List Entry) → IsLegal i t → Block i t block → IsLegal i (t ++ block)
