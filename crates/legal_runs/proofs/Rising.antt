-- Legal transcripts without losses whose stamps rise: those that the laws are proved of. A legal transcript is one.
use Rattle.std.proofs.Common.{◌≡◌, ℕ, ◌+◌, ◌≤◌, List, [], ◌∷◌, ◌++◌, Contains, append-nil, ap, refl, subst, sym, arith}
use Rattle.std.specs.List.{AllByRecursion as Each}
use Rattle.table_image.specs.Internet.{Internet}
use Rattle.audit.specs.Rules.{Passes}
use Rattle.cable_model.specs.Pending.{Pair, pending}
use Rattle.cable_model.specs.Transcript.{AreNumbered, Entry, Sent, Took, next_stamp, stamps}
use Rattle.cable_model.proofs.Counting.{each-append}
use Rattle.cable_model.proofs.Pairs.{EndsNone, numbered-append}
use Rattle.cable_model.proofs.Stamps.{numbered_stamp}
use Rattle.legal_runs.specs.Answers.{Answers, IsMade, IsOwn}
use Rattle.legal_runs.specs.Legal.{Block, Begins, Continues, IsLegal, Sends, Takes, handled, said}
use Rattle.legal_runs.specs.Legs.{Leg, fate, leg}
use Rattle.legal_runs.specs.Losses.{Another, Handled, Nothing, Said}
use Rattle.legal_runs.specs.Stations.{cable_seats}
use Rattle.legal_runs.proofs.Rises.{Rises, numbered_then, rises_more}
use Rattle.legal_runs.proofs.Shapes.{fate_numbered, fate_shape, leg_numbered, leg_shape, shape_none}

-- The entries of one event, without losses.
pub data RisingBlock (i : Internet) (t : List Entry) : List Entry → Type 0 where
  SendsOne : (l : Leg) (es : List Entry) → IsMade i l → IsOwn i l → Said i (next_stamp t) (l ∷ []) es → RisingBlock i t es
  TakesOne : (p : Pair) (answers : List Leg) (es : List Entry) → Contains (pending (cable_seats i) t) p → Each (IsMade i) answers
      → Each (λ (l : Leg). l.station ≡ p.seat.station) answers → Answers i p answers → Handled i (next_stamp t) p answers es
      → RisingBlock i t (Took p.frame.stamp p.seat.station ∷ es)

-- A transcript that is a sequence of such blocks.
pub data IsRising (i : Internet) : List Entry → Type 0 where
  Starts : IsRising i []
  GoesOn : (t block : List Entry) → IsRising i t → RisingBlock i t block → IsRising i (t ++ block)

-- ---- What stations said, and what was handled

module _ (i : Internet) where
  -- The entries of one datagram that a station made.
  pub record OneSaid (n : ℕ) (l : Leg) (es : List Entry) : Type 0 where
    pub stamp : ℕ
    pub above : n ≤ stamp
    pub all : es ≡ Sent l.station l.body ∷ leg i stamp l

  pub said_one : (n : ℕ) (l : Leg) (es : List Entry) → Said i n (l ∷ []) es → OneSaid n l es
  said_one n l es (Another m stamp k ls fs le rest) = by fs rest
    where
      by : (fs : List Entry) → Said i (stamp + stamps (leg i stamp l)) [] fs
          → OneSaid n l (Sent l.station l.body ∷ (leg i stamp l ++ fs))
      by fs (Nothing m) =
          record { stamp = stamp; above = le; all = ap (λ x. Sent l.station l.body ∷ x) (append-nil (leg i stamp l)) }

  -- What stations said ends no pair.
  pub said_ends_none : (n : ℕ) (ls : List Leg) (es : List Entry) → Said i n ls es → Each EndsNone es
  said_ends_none n ls es (Nothing m) = tt
  said_ends_none n ls es (Another m stamp l rest more le s) = (
    tt,
    each-append EndsNone (leg i stamp l) more (shape_none stamp (leg i stamp l) (leg_shape i stamp l))
        (said_ends_none (stamp + stamps (leg i stamp l)) rest more s),
  )

  -- The stamps of what stations said rise.
  pub said_rises : (n : ℕ) (ls : List Leg) (es : List Entry) → Said i n ls es → Rises n es
  said_rises n ls es (Nothing m) = tt
  said_rises n ls es (Another m stamp l rest more le s) = (
    tt,
    rises_more n stamp (leg i stamp l ++ more) le (numbered_then stamp (leg i stamp l) more
        (leg_numbered i stamp l)
        (said_rises (stamp + stamps (leg i stamp l)) rest more s)),
  )

  -- What follows a Took ends no pair.
  pub handled_ends_none : (n : ℕ) (p : Pair) (ls : List Leg) (es : List Entry) → Handled i n p ls es → Each EndsNone es
  handled_ends_none n p ls es h =
      subst (Each EndsNone) (sym h.whole) (each-append EndsNone (fate i h.stamp p) h.rest
      (shape_none h.stamp (fate i h.stamp p) (fate_shape i h.stamp p))
      (said_ends_none (h.stamp + stamps (fate i h.stamp p)) ls h.rest h.said))

  -- The stamps of what follows a Took rise.
  pub handled_rises : (n : ℕ) (p : Pair) (ls : List Leg) (es : List Entry) → Handled i n p ls es → Rises n es
  handled_rises n p ls es h =
      subst (Rises n) (sym h.whole) (rises_more n h.stamp (fate i h.stamp p ++ h.rest) h.above
      (numbered_then h.stamp (fate i h.stamp p) h.rest (fate_numbered i h.stamp p)
      (said_rises (h.stamp + stamps (fate i h.stamp p)) ls h.rest h.said)))

  -- ---- Legal transcripts

  said_numbered : (n : ℕ) (ls : List Leg) → AreNumbered n (said i n ls)
  said_numbered n [] = tt
  said_numbered n (l ∷ ls) =
      let es = leg i n l in
      let same : 0 + n ≡ n = omega arith in (
        tt,
        subst (λ k. AreNumbered k (es ++ said i (n + stamps es) ls)) (sym same)
            (numbered-append n es (said i (n + stamps es) ls) (leg_numbered i n l) (said_numbered (n + stamps es) ls)),
      )

  handled_numbered : (n : ℕ) (p : Pair) (ls : List Leg) → AreNumbered n (handled i n p ls)
  handled_numbered n p ls =
      numbered-append n (fate i n p) (said i (n + stamps (fate i n p)) ls) (fate_numbered i n p)
      (said_numbered (n + stamps (fate i n p)) ls)

  block_numbered : (t block : List Entry) → Block i t block → AreNumbered (0 + stamps t) block
  block_numbered t block (Sends l made own) =
      subst (λ n. AreNumbered n (said i (stamps t) (l ∷ []))) (omega arith) (said_numbered (stamps t) (l ∷ []))
  block_numbered t block (Takes p ls there made its answers) =
      (tt, subst (λ n. AreNumbered n (handled i (stamps t) p ls)) (omega arith) (handled_numbered (stamps t) p ls))

  -- The frames of a legal transcript are numbered, and it holds no datagram.
  pub are_numbered : (t : List Entry) → IsLegal i t → AreNumbered 0 t
  are_numbered t Begins = tt
  are_numbered t (Continues front block legal b) = numbered-append 0 front block (are_numbered front legal) (block_numbered front block b)

  said_is : (n : ℕ) (ls : List Leg) → Said i n ls (said i n ls)
  said_is n [] = Nothing n
  said_is n (l ∷ ls) =
      Another n n l ls (said i (n + stamps (leg i n l)) ls) (omega arith) (said_is (n + stamps (leg i n l)) ls)

  handled_is : (n : ℕ) (p : Pair) (ls : List Leg) → Handled i n p ls (handled i n p ls)
  handled_is n p ls = record {
    stamp = n;
    above = omega arith;
    rest = said i (n + stamps (fate i n p)) ls;
    said = said_is (n + stamps (fate i n p)) ls;
    whole = refl;
  }

  block_rises : (t block : List Entry) → next_stamp t ≡ stamps t → Block i t block → RisingBlock i t block
  block_rises t block next (Sends l made own) =
      SendsOne l (said i (stamps t) (l ∷ [])) made own
      (subst (λ n. Said i n (l ∷ []) (said i (stamps t) (l ∷ []))) (sym next) (said_is (stamps t) (l ∷ [])))
  block_rises t block next (Takes p ls there made its answers) =
      TakesOne p ls (handled i (stamps t) p ls) there made its answers
      (subst (λ n. Handled i n p ls (handled i (stamps t) p ls)) (sym next) (handled_is (stamps t) p ls))

  -- The stamps of a legal transcript are consecutive, so they rise.
  pub legal_rises : (t : List Entry) → IsLegal i t → IsRising i t
  legal_rises t Begins = Starts
  legal_rises t (Continues front block legal b) =
      GoesOn front block (legal_rises front legal)
      (block_rises front block (numbered_stamp front (are_numbered front legal)) b)

-- The frames of a legal transcript are numbered, and it holds no datagram.
pub legal_numbered : (i : Internet) (t : List Entry) → Passes i → IsLegal i t → AreNumbered 0 t
legal_numbered i t ok legal = are_numbered i t legal
