-- For each broadcast request that was taken, each cable of its zone has had one lookup, or a forward request to it is
-- under way.
use Rattle.std.proofs.Common.{◌≡◌, ℕ, ◌+◌, Bool, true, false, not, ◌&&◌, ◌||◌, List, [], ◌∷◌, ◌++◌, Contains}
use Rattle.std.proofs.Common.{ap, append-nil, append_assoc, arith, refl, subst, sym, ◌∙◌}
use Rattle.std.specs.List.{AllByRecursion as Each}
use Rattle.std.proofs.lemmas.Bool.{or_parts, true_from_ne_false}
use Rattle.at_base.specs.Text.{is_name}
use Rattle.table_image.specs.Internet.{Internet}
use Rattle.audit.specs.Rules.{Passes}
use Rattle.cable_model.specs.Pending.{Pair, pairs, pending, was_ended}
use Rattle.cable_model.specs.Transcript.{ArePutOnce, Entry, Sent, Took, count, next_stamp, one, stamps}
use Rattle.cable_model.proofs.Counting.{At, contained_at, count-append, count_agree, count_at, each-append, each_all, each_at, filter_at}
use Rattle.cable_model.proofs.Pairs.{EndsBelow, EndsNone, pairs-append, pending_is, pending_less}
use Rattle.cable_model.proofs.Stamps.{next_after}
use Rattle.legal_runs.specs.Answers.{Answers, IsMade, IsOwn, ends_at}
use Rattle.legal_runs.specs.Legal.{IsLegal}
use Rattle.legal_runs.specs.Legs.{Leg, fate, leg}
use Rattle.legal_runs.specs.LossCounts.{was_lost}
use Rattle.legal_runs.specs.Losses.{Handled, Said}
use Rattle.legal_runs.specs.Lookups.{IsLookedUp, NodesOnlyAsk, asked, ends_so, forwarded, forwards, is_asked, is_unasked, looks}
use Rattle.legal_runs.specs.Lookups.{lookups, taken, waiting, waits, was_taken}
use Rattle.legal_runs.specs.Requests.{is_among, is_forward, is_lookup, listing, request, zone_of}
use Rattle.legal_runs.specs.Stations.{cable_seats}
use Rattle.legal_runs.proofs.Answering.{answers_do}
use Rattle.legal_runs.proofs.FateCounts.{fate_forwards, fate_looks, fate_unasked, fate_waits}
use Rattle.legal_runs.proofs.Ended.{none_lost, rising_kept, taken_alone, took_none_lost}
use Rattle.legal_runs.proofs.Goods.{fate_good, own_good, own_waits}
use Rattle.legal_runs.proofs.InOrder.{rising_below, rising_once, took_below}
use Rattle.legal_runs.proofs.Listing.{no_name_listed}
use Rattle.legal_runs.proofs.Passing.{PairOk}
use Rattle.legal_runs.proofs.Requested.{HasPlace, of_no_lookup, of_unasked, placed}
use Rattle.legal_runs.proofs.Rises.{Rises, pending_rises}
use Rattle.legal_runs.proofs.Rising.{GoesOn, IsRising, RisingBlock, SendsOne, Starts, TakesOne, handled_ends_none, handled_rises}
use Rattle.legal_runs.proofs.Rising.{legal_rises, said_ends_none, said_one, said_rises}
use Rattle.legal_runs.proofs.Runs.{any, known, rising_run}
use Rattle.legal_runs.proofs.Seated.{one_seat}
use Rattle.legal_runs.proofs.Tallies.{count_pairs, forwarded_none, leg_of}

-- n if the cable is listed, and otherwise 0.
abbrev pub share : Bool → ℕ → ℕ
share true n = n
share false n = 0

share_more : (b x : Bool) (n m : ℕ) → m ≡ n + one x → share b m ≡ share b n + one (b && x)
share_more true x n m e = e
share_more false x n m e = refl

split_one : (a b : Bool) → one a ≡ one (a && b) + one (a && not b)
split_one true true = refl
split_one true false = refl
split_one false b = refl

count_split : {X : Type 0} (u f : X → Bool) (xs : List X) → count (λ p. u p && f p) xs + count (λ p. not (u p) && f p) xs ≡ count f xs
count_split u f [] = refl
count_split u f (x ∷ xs) =
    let rest = count_split u f xs in
    elim (u x) as (λ b. (one (b && f x) + count (λ p. u p && f p) xs) + (one (not b && f x) + count (λ p. not (u p) && f p) xs)
    ≡ one (f x) + count f xs) [
      | true ↦ omega (arith, rest)
      | false ↦ omega (arith, rest)
    ]

module _ (i : Internet) (ok : Passes i) where
  -- ---- Requests that were taken

  -- How many of the pairs that pass were taken.
  abbrev took_count : (Pair → Bool) → List Entry → ℕ
  took_count f t = count (λ p. was_taken t p && f p) (pairs (cable_seats i) t)

  took_split : (f : Pair → Bool) (t : List Entry) → ((p : Pair) → was_lost t p ≡ false)
      → took_count f t + count f (pending (cable_seats i) t) ≡ count f (pairs (cable_seats i) t)
  took_split f t kept =
      let a = count_split (was_ended t) f (pairs (cable_seats i) t) in
      let b = pending_is (cable_seats i) (one_seat i ok) f t in
      let c = count_agree (λ p. was_ended t p && f p) (λ p. was_taken t p && f p) (pairs (cable_seats i) t)
      (each_all _ _ (λ p. ap (λ b. b && f p) (taken_alone t p (kept p)))) in
      omega (arith, a, b, c)

  -- The invariant of requests.
  pub record Requests (t : List Entry) : Type 0 where
    pub good : Each (PairOk i) (pairs (cable_seats i) t)
    pub balance : (k : List ℕ) → asked i k t ≡ taken i k t + waiting i k t
    pub looked : (k : List ℕ) (c : ℕ) → lookups i k c t + forwards i k c t ≡ share (is_among c (listing i (zone_of k))) (taken i k t)

  -- Entries that end no pair.
  module _ (t es : List Entry) (old : Each (EndsBelow (next_stamp t)) t) (plain : Each EndsNone es) (new : Rises (next_stamp t) es)
      (kept : (p : Pair) → was_lost t p ≡ false) where
    more_pending : (f : Pair → Bool) → count f (pending (cable_seats i) (t ++ es)) ≡ count f (pending (cable_seats i) t) + count f
        (pairs (cable_seats i) es)
    more_pending f = pending_rises (cable_seats i) (one_seat i ok) f t es (next_stamp t) old plain new

    more_took : (f : Pair → Bool) → took_count f (t ++ es) ≡ took_count f t
    more_took f =
        let a = took_split f (t ++ es) (none_lost t es plain kept) in
        let b = took_split f t kept in
        let c = more_pending f in
        let d = count_pairs i f t es in
        omega (arith, a, b, c, d)

  less_took : (f : Pair → Bool) (t : List Entry) (p : Pair) (k : ℕ) → ArePutOnce t → ((p : Pair) → was_lost t p ≡ false)
      → At (pending (cable_seats i) t) k p
      → took_count f (t ++ Took p.frame.stamp p.seat.station ∷ []) ≡ took_count f t + one (f p)
  less_took f t p k once kept at =
      let took = Took p.frame.stamp p.seat.station in
      let a = took_split f (t ++ took ∷ []) (took_none_lost t p.frame.stamp p.seat.station kept) in
      let b = took_split f t kept in
      let c = pending_less (cable_seats i) (one_seat i ok) f t p k once at in
      let d = ap (count f) (pairs-append (cable_seats i) t (took ∷ []) ∙ append-nil (pairs (cable_seats i) t)) in
      omega (arith, a, b, c, d)

  -- ---- Transcripts

  -- A copy of a forward request has a valid zone name.
  named_by : (t : List Entry) (p : Pair) (n : ℕ) → At (pending (cable_seats i) t) n p → Requests t
      → (k : List ℕ) (c : ℕ) → forwarded i k c p ≡ true → is_name (zone_of k) ≡ true
  named_by t p n at r k c e =
      true_from_ne_false (is_name (zone_of k)) (λ none.
      let total = r.looked k c ∙ ap (λ b. share b (taken i k t)) (no_name_listed i (zone_of k) c none) in
      let some = count_at (forwarded i k c) (pending (cable_seats i) t) n p at e in
      absurd (omega (arith, total, some)))

  sends_more : (t : List Entry) (l : Leg) (es : List Entry) → Each (IsMade i) (l ∷ []) → IsOwn i l → Said i (next_stamp t) (l ∷ []) es
      → is_unasked i (Sent l.station l.body) ≡ false → IsRising i t → Requests t → Requests (t ++ es)
  sends_more t l es made own said asks rising req =
      let neither : (is_forward (request l.body) || is_lookup (request l.body)) ≡ false =
      ap (λ b. not b && (is_forward (request l.body) || is_lookup (request l.body))) (sym own.by_node) ∙ asks in
      let none = or_parts (is_forward (request l.body)) (is_lookup (request l.body)) neither in
      let w = said_one i (next_stamp t) l es said in
      let lg = leg i w.stamp l in
      let plain = said_ends_none i (next_stamp t) (l ∷ []) es said in
      let new = said_rises i (next_stamp t) (l ∷ []) es said in
      let old = rising_below i t rising in
      let kept = rising_kept i t rising in
      let all : es ≡ Sent l.station l.body ∷ lg = w.all in
      let of = leg_of i ok w.stamp l made.0 in
      record {
        good =
            subst (Each (PairOk i)) (sym (pairs-append (cable_seats i) t es))
            (each-append (PairOk i) (pairs (cable_seats i) t) (pairs (cable_seats i) es) req.good
            (subst (λ x. Each (PairOk i) (pairs (cable_seats i) x)) (sym all) (own_good i ok w.stamp l made.0 own none.0 none.1)));
        balance = λ k.
            let a = count-append (is_asked i k) t es in
            let a2 = ap (count (is_asked i k)) all in
            let a3 = of_unasked i any l.body l.hops k lg of in
            let b = more_took t es old plain new kept (ends_so i k) in
            let d = more_pending t es old plain new kept (waits i k) in
            let d2 = ap (λ x. count (waits i k) (pairs (cable_seats i) x)) all in
            let d3 = own_waits i ok k w.stamp l made.0 own in
            let x = req.balance k in
            omega (arith, a, a2, a3, b, d, d2, d3, x);
        looked = λ k c.
            let a = count-append (looks i k c) t es in
            let a2 = ap (count (looks i k c)) all in
            let a3 = of_no_lookup i any l.body l.hops k c lg none.1 of in
            let b = more_took t es old plain new kept (ends_so i k) in
            let b2 = ap (share (is_among c (listing i (zone_of k)))) b in
            let d = more_pending t es old plain new kept (forwarded i k c) in
            let d2 = ap (λ x. count (forwarded i k c) (pairs (cable_seats i) x)) all in
            let d3 = forwarded_none i any l.body l.hops lg of k c none.0 in
            let x = req.looked k c in
            omega (arith, a, a2, a3, b2, d, d2, d3, x);
      }

  takes_more : (t : List Entry) (p : Pair) (ls : List Leg) (es : List Entry) → Contains (pending (cable_seats i) t) p
      → Each (IsMade i) ls → Answers i p ls → Handled i (next_stamp t) p ls es → IsRising i t → Requests t
      → Requests (t ++ Took p.frame.stamp p.seat.station ∷ es)
  takes_more t p ls es there made law h rising req =
      let took = Took p.frame.stamp p.seat.station in
      let before = t ++ took ∷ [] in
      let fs = fate i h.stamp p in
      let gs = h.rest in
      let found = contained_at (pending (cable_seats i) t) p there in
      let w = filter_at (λ q. not (was_ended t q)) (pairs (cable_seats i) t) found.0 p found.1 in
      let q = known i ok t p found.0 (rising_run i ok t rising) found.1 in
      let framed = q.framed in
      let fine = q.fine in
      let good = each_at (PairOk i) (pairs (cable_seats i) t) w.0 p w.1 req.good in
      let place = each_at (HasPlace i) (pairs (cable_seats i) t) w.0 p w.1 (placed i t) in
      let same : next_stamp before ≡ next_stamp t = next_after t took in
      let plain = handled_ends_none i (next_stamp t) p ls es h in
      let new : Rises (next_stamp before) es = subst (λ n. Rises n es) (sym same) (handled_rises i (next_stamp t) p ls es h) in
      let old : Each (EndsBelow (next_stamp before)) before = took_below i t p rising there in
      let kept = rising_kept i t rising in
      let still = took_none_lost t p.frame.stamp p.seat.station kept in
      let once = rising_once i t rising in
      let pairs_same : pairs (cable_seats i) before ≡ pairs (cable_seats i) t =
      pairs-append (cable_seats i) t (took ∷ []) ∙ append-nil (pairs (cable_seats i) t) in
      let does = answers_do i ok (h.stamp + stamps fs) p ls gs h.said place framed good (named_by t p found.0 found.1 req) made law in
      let after : Requests (before ++ es) = record {
        good =
            subst (Each (PairOk i)) (sym (pairs-append (cable_seats i) before es))
            (each-append (PairOk i) (pairs (cable_seats i) before) (pairs (cable_seats i) es)
            (subst (Each (PairOk i)) (sym pairs_same) req.good)
            (subst (λ x. Each (PairOk i) (pairs (cable_seats i) x)) (sym h.whole)
            (subst (Each (PairOk i)) (sym (pairs-append (cable_seats i) fs gs))
            (each-append (PairOk i) (pairs (cable_seats i) fs) (pairs (cable_seats i) gs)
            (fate_good i ok h.stamp p framed good fine) does.good))));
        balance = λ k.
            let tl = does.tally k 0 in
            let a1 = count-append (is_asked i k) before es in
            let a2 = count-append (is_asked i k) t (took ∷ []) in
            let a3 = ap (count (is_asked i k)) h.whole ∙ count-append (is_asked i k) fs gs in
            let a4 = fate_unasked i ok h.stamp p framed good fine k in
            let a5 = tl.1.unasked in
            let b1 = more_took before es old plain new still (ends_so i k) in
            let b2 = less_took (ends_so i k) t p found.0 once kept found.1 in
            let d1 = more_pending before es old plain new still (waits i k) in
            let d2 = pending_less (cable_seats i) (one_seat i ok) (waits i k) t p found.0 once found.1 in
            let d3 = ap (λ x. count (waits i k) (pairs (cable_seats i) x)) h.whole ∙ count_pairs i (waits i k) fs gs in
            let d4 = fate_waits i ok h.stamp p framed good fine k in
            let d5 = tl.1.no_wait in
            let s = split_one (waits i k p) (ends_at i p) in
            let x = req.balance k in
            omega (arith, a1, a2, a3, a4, a5, b1, b2, d1, d2, d3, d4, d5, s, x);
        looked = λ k c.
            let tl = does.tally k c in
            let a1 = count-append (looks i k c) before es in
            let a2 = count-append (looks i k c) t (took ∷ []) in
            let a3 = ap (count (looks i k c)) h.whole ∙ count-append (looks i k c) fs gs in
            let a4 = fate_looks i ok h.stamp p framed good fine k c in
            let a5 = tl.1.found in
            let b1 = more_took before es old plain new still (ends_so i k) in
            let b2 = less_took (ends_so i k) t p found.0 once kept found.1 in
            let b3 = share_more (is_among c (listing i (zone_of k))) (ends_so i k p) (taken i k t) (taken i k (before ++ es)) (b1 ∙ b2) in
            let d1 = more_pending before es old plain new still (forwarded i k c) in
            let d2 = pending_less (cable_seats i) (one_seat i ok) (forwarded i k c) t p found.0 once found.1 in
            let d3 = ap (λ x. count (forwarded i k c) (pairs (cable_seats i) x)) h.whole ∙ count_pairs i (forwarded i k c) fs gs in
            let d4 = fate_forwards i ok h.stamp p framed good fine k c in
            let v = tl.2 in
            let x = req.looked k c in
            omega (arith, a1, a2, a3, a4, a5, b3, d1, d2, d3, d4, v, x);
      } in
      subst Requests (append_assoc t (took ∷ []) es) after

  sent_unasked : (l : Leg) (n : ℕ) (es : List Entry) → Said i n (l ∷ []) es → count (is_unasked i) es ≡ 0
      → is_unasked i (Sent l.station l.body) ≡ false
  sent_unasked l n es said none =
      let w = said_one i n l es said in
      first (is_unasked i (Sent l.station l.body)) _ (sym (ap (count (is_unasked i)) w.all) ∙ none)
    where
      first : (b : Bool) (n : ℕ) → one b + n ≡ 0 → b ≡ false
      first true n e = absurd (omega (arith, e))
      first false n e = refl

  more : (t block : List Entry) → RisingBlock i t block → count (is_unasked i) block ≡ 0 → IsRising i t → Requests t
      → Requests (t ++ block)
  more t block (SendsOne l es made own said) none rising req =
      sends_more t l es (made, tt) own said (sent_unasked l (next_stamp t) es said none) rising req
  more t block (TakesOne p ls es there made its answers handled) none rising req =
      takes_more t p ls es there made answers handled rising req

  pub requests : (t : List Entry) → IsRising i t → NodesOnlyAsk i t → Requests t
  requests t Starts asks = record {
    good = tt;
    balance = λ k. refl;
    looked = λ k c. none (is_among c (listing i (zone_of k)));
  }
    where
      none : (b : Bool) → 0 ≡ share b 0
      none true = refl
      none false = refl
  requests t (GoesOn front block rising b) asks =
      let parts = count-append (is_unasked i) front block in
      let none : count (is_unasked i) (front ++ block) ≡ 0 = asks in
      let before : count (is_unasked i) front ≡ 0 = omega (arith, parts, none) in
      let now : count (is_unasked i) block ≡ 0 = omega (arith, parts, none) in
      more front block b now rising (requests front rising before)

pub rising_looked_up : (i : Internet) (t : List Entry) (k : List ℕ) → Passes i → IsRising i t → NodesOnlyAsk i t → IsLookedUp i t k
rising_looked_up i t k ok rising asks =
    let r = requests i ok t rising asks in
    record {
      asked_is = r.balance k;
      listed = λ c e. r.looked k c ∙ ap (λ b. share b (taken i k t)) e;
      others =
          λ c e. r.looked k c ∙ ap (λ b. share b (taken i k t)) e;
    }

pub are_looked_up : (i : Internet) (t : List Entry) (k : List ℕ) → Passes i → IsLegal i t → NodesOnlyAsk i t → IsLookedUp i t k
are_looked_up i t k ok legal asks = rising_looked_up i t k ok (legal_rises i t legal) asks
