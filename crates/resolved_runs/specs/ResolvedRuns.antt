-- Which transcripts are legal for an internet with frozen tables where addresses are resolved.
use Rattle.std.specs.Prelude.{◌≡◌, List, [], ◌∷◌, ◌++◌, Contains}
use Rattle.std.specs.List.{AllByRecursion as Each}
use Rattle.table_image.specs.Internet.{Internet}
use Rattle.station.specs.declared.heard.Kind.TheVariants.{Aarp, Ddp}
use Rattle.cable_model.specs.Pending.{Pair, pending}
use Rattle.cable_model.specs.Transcript.{Entry, Took}
use Rattle.legal_runs.specs.Answers.{Answers, IsMade, IsOwn}
use Rattle.legal_runs.specs.Legs.{Leg}
use Rattle.resolved_runs.specs.Fates.{fate_with}
use Rattle.resolved_runs.specs.Resolved.{resolved_leg, resolved_said, resolving}
use Rattle.legal_runs.specs.Stations.{cable_seats}

-- The fate of a datagram that was taken, after a transcript.
abbrev pub resolved_fate : Internet → List Entry → Pair → List Entry
resolved_fate i t p = fate_with i (resolved_leg i t) p

-- The entries that follow the taking of a datagram, after a transcript: its fate, and the datagrams that the station sends
-- in answer.
abbrev pub resolved_handled : Internet → List Entry → Pair → List Leg → List Entry
resolved_handled i t p answers = resolved_fate i t p ++ resolved_said i (t ++ resolved_fate i t p) answers

-- The entry of a pair that is taken.
abbrev pub taking : Pair → Entry
taking p = Took p.frame.stamp p.seat.station

-- The entries of one event after a transcript: a node sends a datagram, a station takes a pending datagram, with its fate
-- and the station's answers, or a station takes a pending AARP frame.
pub data ResolvedBlock (i : Internet) (t : List Entry) : List Entry → Type 0 where
  Sends : (l : Leg) → IsMade i l → IsOwn i l → ResolvedBlock i t (resolved_said i t (l ∷ []))
  Takes : (p : Pair) (answers : List Leg) → Contains (pending (cable_seats i) t) p → p.frame.kind ≡ Ddp
      → Each (IsMade i) answers → Each (λ (l : Leg). l.station ≡ p.seat.station) answers → Answers i p answers
      → ResolvedBlock i t (taking p ∷ resolved_handled i (t ++ taking p ∷ []) p answers)
  Resolves : (p : Pair) → Contains (pending (cable_seats i) t) p → p.frame.kind ≡ Aarp
      → ResolvedBlock i t (taking p ∷ resolving i (t ++ taking p ∷ []) p)

-- A transcript is legal with resolution if it is a sequence of such blocks.
pub data IsLegalResolved (i : Internet) : List Entry → Type 0 where
  Begins : IsLegalResolved i []
  Continues : (t block : List Entry) → IsLegalResolved i t → ResolvedBlock i t block → IsLegalResolved i (t ++ block)
