-- The entries of an event where stamps rise without being consecutive, and where frames may be lost in between.
use Rattle.std.specs.Prelude.{◌≡◌, ℕ, ◌+◌, ◌≤◌, List, [], ◌∷◌, ◌++◌, Contains}
use Rattle.table_image.specs.Internet.{Internet}
use Rattle.cable_model.specs.Pending.{Pair, pending}
use Rattle.cable_model.specs.Transcript.{Entry, Sent, Lost, stamps}
use Rattle.legal_runs.specs.Legs.{Leg, fate, leg}
use Rattle.legal_runs.specs.Stations.{cable_seats}

-- The entries of datagrams that stations made: each is sent and then put on its cable, with stamps that are at least
-- `n` and rise.
pub data Said (i : Internet) : ℕ → List Leg → List Entry → Type 0 where
  Nothing : (n : ℕ) → Said i n [] []
  Another : (n stamp : ℕ) (l : Leg) (ls : List Leg) (es : List Entry) → n ≤ stamp → Said i (stamp + stamps (leg i stamp l)) ls es
      → Said i n (l ∷ ls) (Sent l.station l.body ∷ (leg i stamp l ++ es))

-- The entries that follow a Took: the fate of the pair that was taken, with a stamp of at least `n`, and the datagrams
-- that the station sends in answer, with greater stamps.
pub record Handled (i : Internet) (n : ℕ) (p : Pair) (answers : List Leg) (es : List Entry) : Type 0 where
  pub stamp : ℕ
  pub above : n ≤ stamp
  pub rest : List Entry
  pub said : Said i (stamp + stamps (fate i stamp p)) answers rest
  pub whole : es ≡ fate i stamp p ++ rest

-- The first entries, which follow the transcript `t`, with losses among them: each is of a frame that is still pending.
pub data WithLosses (i : Internet) : List Entry → List Entry → List Entry → Type 0 where
  Ends : (t : List Entry) → WithLosses i t [] []
  Keeps : (t : List Entry) (e : Entry) (es fs : List Entry) → WithLosses i (t ++ e ∷ []) es fs → WithLosses i t (e ∷ es) (e ∷ fs)
  Loses : (t : List Entry) (p : Pair) (es fs : List Entry) → Contains (pending (cable_seats i) t) p
      → WithLosses i (t ++ Lost p.frame.stamp ∷ []) es fs → WithLosses i t es (Lost p.frame.stamp ∷ fs)
