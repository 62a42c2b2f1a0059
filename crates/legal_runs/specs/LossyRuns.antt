-- Which transcripts with losses are legal for an internet with frozen tables.
use Rattle.std.specs.Prelude.{◌≡◌, List, [], ◌∷◌, ◌++◌, Contains}
use Rattle.std.specs.List.{AllByRecursion as Each}
use Rattle.table_image.specs.Internet.{Internet}
use Rattle.cable_model.specs.Pending.{Pair, pending}
use Rattle.cable_model.specs.Transcript.{Entry, Lost, Took, next_stamp}
use Rattle.legal_runs.specs.Answers.{Answers, IsMade, IsOwn}
use Rattle.legal_runs.specs.Legs.{Leg}
use Rattle.legal_runs.specs.Losses.{Handled, Said, WithLosses}
use Rattle.legal_runs.specs.Stations.{cable_seats}

-- The entries of one event after a transcript, with losses among them: a node sends a datagram, a station takes a
-- pending frame, with the frame's fate and the station's answers, or a pending frame is lost.
pub data LossyBlock (i : Internet) (t : List Entry) : List Entry → Type 0 where
  Sends : (l : Leg) (es fs : List Entry) → IsMade i l → IsOwn i l → Said i (next_stamp t) (l ∷ []) es → WithLosses i t es fs
      → LossyBlock i t fs
  Takes : (p : Pair) (answers : List Leg) (es fs : List Entry) → Contains (pending (cable_seats i) t) p → Each (IsMade i) answers
      → Each (λ (l : Leg). l.station ≡ p.seat.station) answers → Answers i p answers → Handled i (next_stamp t) p answers es
      → WithLosses i (t ++ Took p.frame.stamp p.seat.station ∷ []) es fs
      → LossyBlock i t (Took p.frame.stamp p.seat.station ∷ fs)
  Loses : (p : Pair) → Contains (pending (cable_seats i) t) p → LossyBlock i t (Lost p.frame.stamp ∷ [])

-- A transcript is legal with losses if it is a sequence of such blocks.
pub data IsLegalWithLosses (i : Internet) : List Entry → Type 0 where
  Begins : IsLegalWithLosses i []
  Continues : (t block : List Entry) → IsLegalWithLosses i t → LossyBlock i t block → IsLegalWithLosses i (t ++ block)
