-- In a transcript without losses, each body to a station's address was taken by that station, or is in a pending frame, as
-- often as it was sent.
use Rattle.std.proofs.Common.{◌≡◌, ℕ, ◌+◌, Bool, true, false, not, ◌&&◌, List, [], ◌∷◌, ◌++◌, Some}
use Rattle.std.proofs.Common.{ap, append-nil, append_assoc, arith, cond, refl, subst, sym, ◌∙◌}
use Rattle.std.specs.List.{AllByRecursion as Each}
use Rattle.at_base.specs.Text.{same_bytes}
use Rattle.ddp.specs.Bodies.{target}
use Rattle.table_image.specs.Internet.{Internet}
use Rattle.table_image.specs.Seats.{Seat as PlaceOf, seat_at}
use Rattle.audit.specs.Routing.{hand, home}
use Rattle.audit.specs.Rules.{Passes}
use Rattle.cable_model.specs.Pending.{Pair, pairs, pending, was_ended}
use Rattle.cable_model.specs.Transcript.{Entry, Took, count, next_stamp, one, stamps}
use Rattle.cable_model.proofs.Counting.{contained_at, count-append, count_agree, each-append, each_all, each_at, filter_at}
use Rattle.cable_model.proofs.Pairs.{EndsBelow, EndsNone, pairs-append, pending_is, pending_less}
use Rattle.cable_model.proofs.Stamps.{next_after}
use Rattle.legal_runs.specs.Answers.{IsMade}
use Rattle.legal_runs.specs.Counts.{is_sent, sent}
use Rattle.legal_runs.specs.Legs.{Leg, fate, fate_by, is_copy, leg}
use Rattle.legal_runs.specs.Losses.{Another, Handled, Nothing, Said}
use Rattle.legal_runs.specs.Lookups.{was_taken}
use Rattle.legal_runs.specs.Stations.{cable_seats}
use Rattle.legal_runs.proofs.Ended.{rising_kept, taken_alone}
use Rattle.legal_runs.proofs.Fates.{fate_does}
use Rattle.legal_runs.proofs.InOrder.{rising_below, rising_once, took_below}
use Rattle.legal_runs.proofs.Rises.{Rises, pending_rises}
use Rattle.legal_runs.proofs.Rising.{GoesOn, IsRising, RisingBlock, SendsOne, Starts, TakesOne, handled_ends_none, handled_rises}
use Rattle.legal_runs.proofs.Rising.{said_ends_none, said_rises}
use Rattle.legal_runs.proofs.Runs.{Known, any, known, made_does, rising_run}
use Rattle.legal_runs.proofs.Seated.{one_seat}
use Rattle.legal_runs.proofs.Tallies.{count_pairs}
use Rattle.resolved_runs.specs.AskedFor.{bears, brings, heard}
use Rattle.resolved_runs.proofs.Bearing.{Bears, IsGood, bears_either, brings_on, fate_bears, leg_bears}

-- A sum of two tests counts what they count.
pub count_sum : {X : Type 0} (t u v : X → Bool) (xs : List X) → ((x : X) → one (t x) ≡ one (u x) + one (v x))
    → count t xs ≡ count u xs + count v xs
count_sum t u v [] f = refl
count_sum t u v (x ∷ xs) f =
    let here = f x in
    let rest = count_sum t u v xs f in
    omega (arith, here, rest)

count_split : {X : Type 0} (u f : X → Bool) (xs : List X) → count (λ p. u p && f p) xs + count (λ p. not (u p) && f p) xs ≡ count f xs
count_split u f xs = sym (count_sum f (λ p. u p && f p) (λ p. not (u p) && f p) xs (λ p. bits (u p) (f p)))
  where
    bits : (a b : Bool) → one b ≡ one (a && b) + one (not a && b)
    bits true true = refl
    bits true false = refl
    bits false true = refl
    bits false false = refl

module _ (i : Internet) (ok : Passes i) (b : List ℕ) (c : ℕ) (s : PlaceOf) (listed : home i (target b).net ≡ Some c)
    (found : seat_at i c (target b) ≡ Some s) where
  -- The frames that bear the body go to the station or to another one.
  split : (ps : List Pair) → count (bears b) ps ≡ count (brings s.station b) ps + count (brings_on s.station b) ps
  split ps = count_sum (bears b) (brings s.station b) (brings_on s.station b) ps (λ p. bears_either s.station b p)

  -- ---- Events

  bears_more : (n m : ℕ) (es fs : List Entry) → Bears i s.station b n es → Bears i s.station b m fs → Bears i s.station b (n + m) (es ++ fs)
  bears_more n m es fs x y = record {
    counted =
        let all = count_pairs i (bears b) es fs in
        let mine = x.counted in
        let theirs = y.counted in
        omega (arith, all, mine, theirs);
    good =
        subst (Each (IsGood i s.station b)) (sym (pairs-append (cable_seats i) es fs))
        (each-append (IsGood i s.station b) (pairs (cable_seats i) es) (pairs (cable_seats i) fs) x.good y.good);
  }

  -- Each datagram with the body that stations made has one frame.
  said_bears : (n : ℕ) (ls : List Leg) (es : List Entry) → Said i n ls es → Each (IsMade i) ls → Bears i s.station b (sent b es) es
  said_bears n ls es (Nothing m) made = record { counted = refl; good = tt }
  said_bears n ls es (Another m stamp l more fs le said) made =
      let lg = leg i stamp l in
      let rest = said_bears (stamp + stamps lg) more fs said made.1 in
      let mine = leg_bears i ok b c s listed found stamp l made.0 in
      let both = bears_more (one (same_bytes b l.body)) (sent b fs) lg fs mine rest in
      let unsent = (made_does i ok any any stamp l made.0 (λ s. tt) (λ c. tt)).unsent b in
      let gone = count-append (is_sent b) lg fs in
      record {
        counted = let all = both.counted in omega (arith, all, unsent, gone);
        good = both.good;
      }

  fate_unsent : (stamp : ℕ) (p : Pair) → Known i ok p → sent b (fate i stamp p) ≡ 0
  fate_unsent stamp p q = by (is_copy i p) refl
    where
      by : (x : Bool) → is_copy i p ≡ x → sent b (fate i stamp p) ≡ 0
      by true e = (fate_does i ok any any stamp p q.framed e q.fine (λ c h at. tt) (λ s d a on. tt)).unsent b
      by false e =
          ap (λ x. sent b (cond x (fate_by i stamp p.seat.station p (hand i p.seat.station (target p.frame.bytes).net)) [])) e

  -- What follows the taking of a frame bears the body once more where another station than that of the address took it.
  handled_bears : (n : ℕ) (p : Pair) (ls : List Leg) (es : List Entry) → Handled i n p ls es → Known i ok p → IsGood i s.station b p
      → Each (IsMade i) ls → Bears i s.station b (one (brings_on s.station b p) + sent b es) es
  handled_bears n p ls es h q good made =
      let fs = fate i h.stamp p in
      let mine = fate_bears i ok b c s listed found h.stamp p q.framed q.fine good in
      let rest = said_bears (h.stamp + stamps fs) ls h.rest h.said made in
      let both = bears_more (one (brings_on s.station b p)) (sent b h.rest) fs h.rest mine rest in
      let unsent = fate_unsent h.stamp p q in
      let gone = count-append (is_sent b) fs h.rest in
      let same = ap (λ n. one (brings_on s.station b p) + n) (ap (sent b) h.whole) in
      subst (λ x. Bears i s.station b (one (brings_on s.station b p) + sent b x) x) (sym h.whole) (record {
        counted = let all = both.counted in omega (arith, all, unsent, gone);
        good = both.good;
      })

  -- ---- Transcripts

  -- Each time that the body was sent, a frame was put to its station, or one for another station is pending.
  pub record Borne (t : List Entry) : Type 0 where
    pub balance : sent b t ≡ count (brings s.station b) (pairs (cable_seats i) t) + count (brings_on s.station b) (pending (cable_seats i) t)
    pub good : Each (IsGood i s.station b) (pairs (cable_seats i) t)

  -- Adds entries that end no pair, with new stamps.
  borne_then : (t es : List Entry) (owed : ℕ) → Bears i s.station b (owed + sent b es) es → Each EndsNone es → Rises (next_stamp t) es
      → Each (EndsBelow (next_stamp t)) t
      → sent b t ≡ count (brings s.station b) (pairs (cable_seats i) t) + count (brings_on s.station b) (pending (cable_seats i) t) + owed
      → Each (IsGood i s.station b) (pairs (cable_seats i) t) → Borne (t ++ es)
  borne_then t es owed born none new below old good = record {
    balance =
        let more = born.counted in
        let gone = count-append (is_sent b) t es in
        let put = count_pairs i (brings s.station b) t es in
        let on = pending_rises (cable_seats i) (one_seat i ok) (brings_on s.station b) t es (next_stamp t) below none new in
        let either = split (pairs (cable_seats i) es) in
        omega (arith, old, more, gone, put, on, either);
    good =
        subst (Each (IsGood i s.station b)) (sym (pairs-append (cable_seats i) t es))
        (each-append (IsGood i s.station b) (pairs (cable_seats i) t) (pairs (cable_seats i) es) good born.good);
  }

  event : (t block : List Entry) → RisingBlock i t block → IsRising i t → Borne t → Borne (t ++ block)
  event t block (SendsOne l es made own said) rising r =
      let same : sent b es ≡ 0 + sent b es = omega arith in
      borne_then t es 0 (subst (λ n. Bears i s.station b n es) same (said_bears (next_stamp t) (l ∷ []) es said (made, tt)))
      (said_ends_none i (next_stamp t) (l ∷ []) es said)
      (said_rises i (next_stamp t) (l ∷ []) es said) (rising_below i t rising) (let old = r.balance in omega (arith, old)) r.good
  event t block (TakesOne p ls es there made its answers handled) rising r =
      let took = Took p.frame.stamp p.seat.station in
      let at = contained_at (pending (cable_seats i) t) p there in
      let w = filter_at (λ q. not (was_ended t q)) (pairs (cable_seats i) t) at.0 p at.1 in
      let q = known i ok t p at.0 (rising_run i ok t rising) at.1 in
      let good = each_at (IsGood i s.station b) (pairs (cable_seats i) t) w.0 p w.1 r.good in
      let less = pending_less (cable_seats i) (one_seat i ok) (brings_on s.station b) t p at.0 (rising_once i t rising) at.1 in
      let same : pairs (cable_seats i) (t ++ took ∷ []) ≡ pairs (cable_seats i) t =
      pairs-append (cable_seats i) t (took ∷ []) ∙ append-nil (pairs (cable_seats i) t) in
      let put = ap (count (brings s.station b)) same in
      let gone = count-append (is_sent b) t (took ∷ []) in
      let all : Borne ((t ++ took ∷ []) ++ es) =
      borne_then (t ++ took ∷ []) es (one (brings_on s.station b p)) (handled_bears (next_stamp t) p ls es handled q good made)
      (handled_ends_none i (next_stamp t) p ls es handled)
      (subst (λ n. Rises n es) (sym (next_after t took)) (handled_rises i (next_stamp t) p ls es handled)) (took_below i t p rising there)
      (let old = r.balance in omega (arith, old, less, put, gone)) (subst (Each (IsGood i s.station b)) (sym same) r.good) in
      subst Borne (append_assoc t (took ∷ []) es) all

  rising_borne : (t : List Entry) → IsRising i t → Borne t
  rising_borne t Starts = record { balance = refl; good = tt }
  rising_borne t (GoesOn front block rising block_is) = event front block block_is rising (rising_borne front rising)

  -- Where nothing is lost, each frame was taken or is pending.
  taken_or_open : (f : Pair → Bool) (t : List Entry) → IsRising i t
      → count (λ p. was_taken t p && f p) (pairs (cable_seats i) t) + count f (pending (cable_seats i) t) ≡ count f (pairs (cable_seats i) t)
  taken_or_open f t rising =
      let a = count_split (was_ended t) f (pairs (cable_seats i) t) in
      let b = pending_is (cable_seats i) (one_seat i ok) f t in
      let c = count_agree (λ p. was_ended t p && f p) (λ p. was_taken t p && f p) (pairs (cable_seats i) t)
      (each_all _ _ (λ p. ap (λ b. b && f p) (taken_alone t p (rising_kept i t rising p)))) in
      omega (arith, a, b, c)

  -- Each time that the body was sent, the station took it, or it is in a pending frame.
  pub rising_heard : (t : List Entry) → IsRising i t → sent b t ≡ heard i s.station b t + count (bears b) (pending (cable_seats i) t)
  rising_heard t rising =
      let r = (rising_borne t rising).balance in
      let taken = taken_or_open (brings s.station b) t rising in
      let either = split (pending (cable_seats i) t) in
      omega (arith, r, taken, either)
