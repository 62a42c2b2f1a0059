-- Two runs over the same bytes.
use Rattle.std.proofs.Common.{◌≡◌, ◌⊎◌, inl, inr, ℕ, ◌≤◌, ◌∙◌, List, [], ◌∷◌, ◌++◌, ap, arith, refl, subst, sym}
use Rattle.std.proofs.lemmas.List.{append-nil}
use Rattle.cabled.specs.Acting.{Acting, Event}
use Rattle.capture_feed.specs.Feeds.{Leads}
use Rattle.capture_feed.specs.Stages.{Standing, coming, pending, told}
use Rattle.pcapng.specs.Sections.{Told}
use Rattle.route_laws.specs.Carrying.{after_all, all_bytes}
use Rattle.routing.specs.Events.{events_of}
use Rattle.routing.specs.Run.{Came, HasHeard, HaveHeard, Routed, one_more}
use Rattle.routing.specs.Streams.{answer_bytes, event_bytes, time_of}

-- ---- Bytes tell one list of blocks

pub leads_one : (at last end : Standing) (bytes kept left : List ℕ) (ts us : List Told) → Leads at bytes ts last kept → Leads at bytes us end left
    → coming last kept ≡ pending → coming end left ≡ pending → ts ≡ us
leads_one at last end bytes kept left [] [] l k p q = refl
leads_one at last end bytes kept left [] (u ∷ us) l (m, rest, is, k) p q =
    let one : coming at (bytes ++ []) ≡ pending = l [] ∙ ap (coming last) (append-nil kept) ∙ p in
    let other = is [] in
    absurd cc
leads_one at last end bytes kept left (t ∷ ts) [] (m, rest, is, l) k p q =
    let one : coming at (bytes ++ []) ≡ pending = k [] ∙ ap (coming end) (append-nil left) ∙ q in
    let other = is [] in
    absurd cc
leads_one at last end bytes kept left (t ∷ ts) (u ∷ us) (m, rest, is, l) (n, more, same, k) p q =
    let both : told t m (rest ++ []) ≡ told u n (more ++ []) = sym (is []) ∙ same [] in
    let block : t ≡ u = cc in
    let place : m ≡ n = cc in
    let bytes : rest ++ [] ≡ more ++ [] = cc in
    let after : rest ≡ more = sym (append-nil rest) ∙ bytes ∙ append-nil more in
    let moved = subst (λ (x : List ℕ). Leads n x us end left) (sym after) k in
    let there = subst (λ (x : Standing). Leads x rest us end left) (sym place) moved in
    let others = leads_one m last end rest kept left ts us l there p q in
    ap (λ (x : Told). x ∷ ts) block ∙ ap (λ (xs : List Told). u ∷ xs) others

-- ---- Where nothing was dropped, what came is one function of the events

module _ {S : Type 0} (acts : Acting S) where
  -- a count never falls
  rises : (time : ℕ) (r after : S) (es : List Event) (d d1 : ℕ) (bytes : List ℕ) → Came acts time r es d bytes after d1 → d ≡ d1 ⊎ 1 ≤ d1
  rises time r after [] d d1 bytes (none, same, kept) = inl (sym kept)
  rises time r after (e ∷ es) d d1 bytes (inl (rest, is, came)) = rises time (acts.step r e).1 after es d d1 rest came
  rises time r after (e ∷ es) d d1 bytes (inr came) = by (rises time r after es (one_more d) d1 bytes came)
    where
      by : one_more d ≡ d1 ⊎ 1 ≤ d1 → d ≡ d1 ⊎ 1 ≤ d1
      by (inl is) = inr (omega (arith, is))
      by (inr some) = inr some

-- what came, where the count is 0 after it
pub record IsWhole {S : Type 0} (acts : Acting S) (time : ℕ) (r after : S) (es : List Event) (d : ℕ) (bytes : List ℕ) : Type 0 where
  pub none : d ≡ 0
  pub bytes_are : bytes ≡ all_bytes acts time r es
  pub after_is : after ≡ after_all acts r es

module _ {S : Type 0} (acts : Acting S) where
  pub whole : (time : ℕ) (r after : S) (es : List Event) (d d1 : ℕ) (bytes : List ℕ) → Came acts time r es d bytes after d1 → d1 ≡ 0
      → IsWhole acts time r after es d bytes
  whole time r after [] d d1 bytes (nothing, same, kept) zero_is = record { none = sym kept ∙ zero_is; bytes_are = nothing; after_is = same }
  whole time r after (e ∷ es) d d1 bytes (inl (rest, is, came)) zero_is =
      let w = whole time (acts.step r e).1 after es d d1 rest came zero_is in
      record { none = w.none; bytes_are = is ∙ ap (λ (l : List ℕ). event_bytes acts time r e ++ l) w.bytes_are; after_is = w.after_is }
  whole time r after (e ∷ es) d d1 bytes (inr came) zero_is = absurd (by (rises acts time r after es (one_more d) d1 bytes came))
    where
      by : one_more d ≡ d1 ⊎ 1 ≤ d1 → ⊥
      by (inl is) = omega (arith, is, zero_is)
      by (inr some) = omega (arith, some, zero_is)

-- ---- One block, and all

-- one block that was heard by two
pub record AreAlike {S : Type 0} (first second : List ℕ) (a b : Routed S) : Type 0 where
  pub bytes : first ≡ second
  pub state : a ≡ b

module _ {S : Type 0} (acts : Acting S) (m a b : Routed S) (t : Told) (first second : List ℕ) (x : HasHeard acts m t first a) (y : HasHeard acts m t second b) (p : a.dropped ≡ 0) (q : b.dropped ≡ 0) where
  pub alike : AreAlike first second a b
  alike =
      let v = whole acts (time_of t) m.station a.station (events_of m.ports m.clock t) m.dropped a.dropped x.put x.came p in
      let w = whole acts (time_of t) m.station b.station (events_of m.ports m.clock t) m.dropped b.dropped y.put y.came q in
      let put : x.put ≡ y.put = v.bytes_are ∙ sym w.bytes_are in
      let router : a.station ≡ b.station = v.after_is ∙ sym w.after_is in
      let calls : a.calls ≡ b.calls = x.calls ∙ sym y.calls in
      let ports : a.ports ≡ b.ports = x.ports ∙ sym y.ports in
      let clock : a.clock ≡ b.clock = x.clock ∙ sym y.clock in
      let dropped : a.dropped ≡ b.dropped = p ∙ sym q in
      record {
        bytes = x.all ∙ ap (λ (l : List ℕ). l ++ answer_bytes t) put ∙ sym y.all;
        state = rw (calls, ports, clock, router, dropped) refl;
      }

module _ {S : Type 0} (acts : Acting S) where
  -- nothing was dropped before, where nothing was dropped after
  before_none : (m a : Routed S) (t : Told) (bytes : List ℕ) → HasHeard acts m t bytes a → a.dropped ≡ 0 → m.dropped ≡ 0
  before_none m a t bytes x p = (whole acts (time_of t) m.station a.station (events_of m.ports m.clock t) m.dropped a.dropped x.put x.came p).none

  all_before_none : (m a : Routed S) (ts : List Told) (bytes : List ℕ) → HaveHeard acts m ts bytes a → a.dropped ≡ 0 → m.dropped ≡ 0
  all_before_none m a [] bytes (none, same) p = sym (ap (λ (x : Routed S). x.dropped) same) ∙ p
  all_before_none m a (t ∷ ts) bytes (mid, first, rest, heard, others, all) p =
      before_none m mid t first heard (all_before_none mid a ts rest others p)

  pub all_alike : (m a b : Routed S) (ts : List Told) (first second : List ℕ) → HaveHeard acts m ts first a → HaveHeard acts m ts second b
      → a.dropped ≡ 0 → b.dropped ≡ 0 → AreAlike first second a b
  all_alike m a b [] first second (none, same) (nothing, kept) p q = record { bytes = none ∙ sym nothing; state = same ∙ sym kept }
  all_alike m a b (t ∷ ts) first second (mid, c, rest, heard, others, all) (mid2, c2, rest2, heard2, others2, all2) p q =
      let here = alike acts m mid mid2 t c c2 heard heard2 (all_before_none mid a ts rest others p) (all_before_none mid2 b ts rest2 others2 q) in
      let moved = subst (λ (x : Routed S). HaveHeard acts x ts rest2 b) (sym here.state) others2 in
      let later = all_alike mid a b ts rest rest2 others moved p q in
      record {
        bytes = all ∙ ap (λ (l : List ℕ). l ++ rest) here.bytes ∙ ap (λ (l : List ℕ). c2 ++ l) later.bytes ∙ sym all2;
        state = later.state;
      }
