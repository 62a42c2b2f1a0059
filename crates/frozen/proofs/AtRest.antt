-- What the promises say of a run in which no frame is pending.
use Rattle.std.proofs.Common.{Bool, Contains, List, None, Option, Some, [], ap, arith, false, refl, slice_get, subst, sym, true, ℕ, ◌+◌, ◌∙◌, ◌≡◌}
use Rattle.std.proofs.Common.{is_some}
use Rattle.std.proofs.lemmas.Bool.{and_parts}
use Rattle.std.proofs.lemmas.Option.{none-some}
use Rattle.audit.proofs.WalkFacts.{owner_is}
use Rattle.audit.specs.Routing.{home, owner}
use Rattle.cable_model.proofs.Counting.{count_none}
use Rattle.cable_model.specs.Holdings.{still_held}
use Rattle.cable_model.specs.Logs.{transcript as said}
use Rattle.cable_model.specs.Pending.{Pair, pending}
use Rattle.cable_model.specs.Transcript.{Entry, Holding, count}
use Rattle.ddp.specs.Bodies.{target}
use Rattle.frozen.proofs.Promised.{all_asked_for, each_once, legal_resolved, looks_up}
use Rattle.frozen.specs.Promises.{AreAskedForOn, AreTaken, HasArrived, HaveHadALookup, HaveOnlyAsked, IsAtRest, IsEachOnceOn, IsLookedUpOn}
use Rattle.frozen.specs.Promises.{shed, shed_forwards, shed_requests}
use Rattle.frozen.specs.Runs.{IsFrozen, Running, RunsOver, transcript}
use Rattle.legal_runs.specs.Counts.{carries, reached, sent}
use Rattle.legal_runs.specs.Lookups.{asked, forwarded, lookups, taken, waits}
use Rattle.legal_runs.specs.Requests.{is_among, listing, zone_of}
use Rattle.legal_runs.specs.Stations.{cable_seats}
use Rattle.resolved_runs.proofs.Elements.{contained, each_in, in_list}
use Rattle.resolved_runs.proofs.AskedRuns.{asked_for}
use Rattle.resolved_runs.proofs.Erased.{erases}
use Rattle.resolved_runs.proofs.Heard.{heard_resolved}
use Rattle.resolved_runs.specs.AskedFor.{AreAskedFor, heard, let_down}
use Rattle.resolved_runs.specs.HeldCounts.{holds_copy, holds_forward, holds_request, is_held_copy}
use Rattle.run_cables.specs.Wired.{happened}
use Rattle.run_cables.specs.declared.wiring.Wiring.{Wiring}
use Rattle.run_cables.specs.declared.wiring.Wiring.TheVariants.{Asking, Known}
use Rattle.table_image.specs.Internet.{Internet}
use Rattle.table_image.specs.Seats.{Seat, seat_at}
use Rattle.table_image.specs.declared.version.Version.TheVariants.{V2}

-- ---- Nothing is held for a station

module _ (i : Internet) (t : List Entry) (asks : AreAskedFor i t) (none : pending (cable_seats i) t ≡ []) where
  no_pair : (p : Pair) → Contains (pending (cable_seats i) t) p → ⊥
  no_pair p there = nowhere p (in_list [] p (subst (λ ps. Contains ps p) none there))
    where
      nowhere : (p : Pair) → (k : ℕ) × (slice_get [] k ≡ Some p) → ⊥
      nowhere p (k, e) = cc

  -- Nothing is held for a station.
  pub unheld : (h : Holding) → Contains (still_held t) h → seat_at i h.cable h.next ≡ None
  unheld h there = by (seat_at i h.cable h.next) refl
    where
      by : (o : Option Seat) → seat_at i h.cable h.next ≡ o → o ≡ None
      by None e = refl
      by (Some s) e = let w = asks h s there e in absurd (no_pair w.pair w.there)

  -- A test that only datagrams pass that are held for a station is passed by none.
  none_held : (f : Holding → Bool) → ((h : Holding) → f h ≡ true → (s : Seat) × (seat_at i h.cable h.next ≡ Some s))
      → count f (still_held t) ≡ 0
  none_held f only =
      count_none f (still_held t)
      (each_in (λ h. f h ≡ false) (still_held t) (λ h w. by h (contained (still_held t) h w) (f h) refl))
    where
      by : (h : Holding) → Contains (still_held t) h → (b : Bool) → f h ≡ b → f h ≡ false
      by h there false e = e
      by h there true e = let s = only h e in absurd (none-some s.0 (sym (unheld h there) ∙ s.1))

-- An option that has an element.
has_one : {X : Type 0} (o : Option X) → is_some o ≡ true → (x : X) × (o ≡ Some x)
has_one None e = cc
has_one (Some x) e = (x, refl)

-- A copy is held for a router, so for a station.
copy_seat : (i : Internet) (h : Holding) → is_held_copy i h ≡ true → (s : Seat) × (seat_at i h.cable h.next ≡ Some s)
copy_seat i h e =
    let r = has_one (owner i h.cable h.next) ((and_parts (is_some (owner i h.cable h.next)) _ e).0) in
    let w = owner_is i h.cable h.next r.0 r.1 in
    (w.0.0, w.0.1)

-- ---- Each sum, by the two kinds of cables

module _ (i : Internet) where
  arrived_on : (w : Wiring) (b : List ℕ) (c : ℕ) → IsEachOnceOn i w → AreAskedForOn i w → pending (cable_seats i) (happened w) ≡ []
      → home i (target b).net ≡ Some c → sent b (happened w) ≡ reached b c (happened w) + shed i w b
  arrived_on (Known k) b c once asks none is =
      let counted = (once.listed b c is).counted in
      let pairs = ap (count (carries i b)) none in
      omega (arith, counted, pairs)
  arrived_on (Asking w) b c once asks none is =
      let counted = (once.listed b c is).counted in
      let pairs = ap (count (carries i b)) none in
      let held = none_held i (said w.cabling) asks.2 none (holds_copy i b) (λ h e. copy_seat i h ((and_parts (is_held_copy i h) _ e).0)) in
      omega (arith, counted, pairs, held)

  elsewhere_on : (w : Wiring) (b : List ℕ) (c d : ℕ) → IsEachOnceOn i w → home i (target b).net ≡ Some c → (d ≡ c → ⊥)
      → reached b d (happened w) ≡ 0
  elsewhere_on (Known k) b c d once is other = (once.listed b c is).elsewhere d other
  elsewhere_on (Asking w) b c d once is other = (once.listed b c is).elsewhere d other

  taken_on : (w : Wiring) (k : List ℕ) → IsLookedUpOn i w k → AreAskedForOn i w → pending (cable_seats i) (happened w) ≡ []
      → asked i k (happened w) ≡ taken i k (happened w) + shed_requests i w k
  taken_on (Known c) k up asks none =
      let counted = up.asked_is in
      let pairs = ap (count (waits i k)) none in
      omega (arith, counted, pairs)
  taken_on (Asking w) k up asks none =
      let counted = up.asked_is in
      let pairs = ap (count (waits i k)) none in
      let held = none_held i (said w.cabling) asks.2 none (holds_request i k)
      (λ h e. has_one (seat_at i h.cable h.next) ((and_parts (is_some (seat_at i h.cable h.next)) _ e).0)) in
      omega (arith, counted, pairs, held)

  looked_up_on : (w : Wiring) (k : List ℕ) (c : ℕ) → IsLookedUpOn i w k → AreAskedForOn i w → pending (cable_seats i) (happened w) ≡ []
      → is_among c (listing i (zone_of k)) ≡ true
      → lookups i k c (happened w) + shed_forwards i w k c ≡ taken i k (happened w)
  looked_up_on (Known x) k c up asks none is =
      let counted = up.listed c is in
      let pairs = ap (count (forwarded i k c)) none in
      omega (arith, counted, pairs)
  looked_up_on (Asking w) k c up asks none is =
      let counted = up.listed c is in
      let pairs = ap (count (forwarded i k c)) none in
      let held = none_held i (said w.cabling) asks.2 none (holds_forward i k c) (λ h e. copy_seat i h ((and_parts (is_held_copy i h) _ e).0)) in
      omega (arith, counted, pairs, held)

  not_looked_up_on : (w : Wiring) (k : List ℕ) (c : ℕ) → IsLookedUpOn i w k → is_among c (listing i (zone_of k)) ≡ false
      → lookups i k c (happened w) ≡ 0
  not_looked_up_on (Known x) k c up is = let counted = up.others c is in omega (arith, counted)
  not_looked_up_on (Asking w) k c up is = let counted = up.others c is in omega (arith, counted)

-- ---- Of a run

-- Where a run is at rest, nothing of its transcript is pending.
none_left : (r : Running) → IsFrozen r → IsAtRest r → pending (cable_seats r.internet) (transcript r) ≡ []
none_left r frozen rest = ap (λ seats. pending seats (transcript r)) (sym frozen.seats) ∙ rest

pub at_rest_arrived : (r : Running) (b : List ℕ) (c : ℕ) → IsFrozen r → IsAtRest r → home r.internet (target b).net ≡ Some c
    → HasArrived r b c
at_rest_arrived r b c frozen rest is =
    arrived_on r.internet r.wiring b c (each_once r frozen) (all_asked_for r frozen) (none_left r frozen rest) is

pub nowhere_else : (r : Running) (b : List ℕ) (c d : ℕ) → IsFrozen r → home r.internet (target b).net ≡ Some c → (d ≡ c → ⊥)
    → reached b d (transcript r) ≡ 0
nowhere_else r b c d frozen is other = elsewhere_on r.internet r.wiring b c d (each_once r frozen) is other

pub at_rest_taken : (r : Running) (k : List ℕ) → IsFrozen r → IsAtRest r → HaveOnlyAsked r → AreTaken r k
at_rest_taken r k frozen rest only =
    taken_on r.internet r.wiring k ((looks_up r frozen only).1 k) (all_asked_for r frozen) (none_left r frozen rest)

pub at_rest_looked_up : (r : Running) (k : List ℕ) (c : ℕ) → IsFrozen r → IsAtRest r → HaveOnlyAsked r
    → is_among c (listing r.internet (zone_of k)) ≡ true → HaveHadALookup r k c
at_rest_looked_up r k c frozen rest only is =
    looked_up_on r.internet r.wiring k c ((looks_up r frozen only).1 k) (all_asked_for r frozen) (none_left r frozen rest) is

pub not_looked_up : (r : Running) (k : List ℕ) (c : ℕ) → IsFrozen r → HaveOnlyAsked r
    → is_among c (listing r.internet (zone_of k)) ≡ false → lookups r.internet k c (transcript r) ≡ 0
not_looked_up r k c frozen only is = not_looked_up_on r.internet r.wiring k c ((looks_up r frozen only).1 k) is

-- Of a run over an image of version 2, what is held for a station is asked for.
asked_of : (r : Running) → RunsOver V2 r → AreAskedFor r.internet (transcript r)
asked_of r f =
    let legal = legal_resolved r.internet r.wiring f.0.legal f.1 in
    asked_for r.internet f.0.passes legal.0 (transcript r) legal.1

pub at_rest_unheld : (r : Running) (h : Holding) → RunsOver V2 r → IsAtRest r → Contains (still_held (transcript r)) h
    → seat_at r.internet h.cable h.next ≡ None
at_rest_unheld r h f rest there = unheld r.internet (transcript r) (asked_of r f) (none_left r f.0 rest) h there

pub at_rest_heard : (r : Running) (b : List ℕ) (c : ℕ) (s : Seat) → RunsOver V2 r → IsAtRest r → seat_at r.internet c (target b) ≡ Some s
    → sent b (transcript r) ≡ heard r.internet s.station b (transcript r) + let_down r.internet b (transcript r)
at_rest_heard r b c s f rest found =
    let legal = legal_resolved r.internet r.wiring f.0.legal f.1 in
    let e = erases r.internet f.0.passes legal.0 (transcript r) legal.1 in
    heard_resolved r.internet (transcript r) f.0.passes e.told e.legal (asked_of r f) (none_left r f.0 rest) b c s found
