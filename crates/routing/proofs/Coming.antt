-- Events that come to a station, one after the other.
use Rattle.std.proofs.Common.{◌≡◌, ◌⊎◌, inl, inr, ℕ, zero, suc, ◌-◌, ◌≤◌, ◌∙◌, List, [], ◌∷◌, ◌++◌, Option, Some, None, ap, refl, replicate, subst, sym, arith}
use Rattle.std.proofs.lemmas.List.{append_assoc, append-nil}
use Rattle.cabled.specs.Acting.{Acting, Event, Tick}
use Rattle.cabled.specs.Putting.{Put}
use Rattle.routing.specs.Events.{ticks}
use Rattle.routing.specs.Run.{Came, Counted, Happened, one_more}
use Rattle.routing.specs.Streams.{event_bytes, puts_bytes}
use Rattle.text.proofs.Going.{goes_none, goes_then}
use Rattle.text.specs.Going.{Goes}

module _ {S : Type 0} (acts : Acting S) where
  -- some events came, and then others
  pub came_both : (time : ℕ) (es fs : List Event) (r mid after : S) (d d1 d2 : ℕ) (a b : List ℕ) → Came acts time r es d a mid d1
      → Came acts time mid fs d1 b after d2 → Came acts time r (es ++ fs) d (a ++ b) after d2
  came_both time [] fs r mid after d d1 d2 a b (none, same, kept) others =
      let at = subst (λ x. Came acts time x fs d1 b after d2) same others in
      let all = subst (λ n. Came acts time r fs n b after d2) kept at in
      subst (λ (l : List ℕ). Came acts time r fs d (l ++ b) after d2) (sym none) all
  came_both time (e ∷ es) fs r mid after d d1 d2 a b (inl (rest, is, came)) others = inl (
    rest ++ b,
    ap (λ (l : List ℕ). l ++ b) is ∙ append_assoc (event_bytes acts time r e) rest b,
    came_both time es fs (acts.step r e).1 mid after d d1 d2 rest b came others,
  )
  came_both time (e ∷ es) fs r mid after d d1 d2 a b (inr came) others =
      inr (came_both time es fs r mid after (one_more d) d1 d2 a b came others)

  -- nothing came
  pub none_happened : (time : ℕ) (c : Counted S) (u : Option (List ℕ)) (t : List ℕ) → Happened acts time c [] c u t u t
  none_happened time c u t = ([], (refl, refl, refl), goes_none u t)

  -- an event came, and what was put for it was written
  pub one_happened : (time : ℕ) (c after : Counted S) (e : Event) (u v : Option (List ℕ)) (t s : List ℕ) → after.station ≡ (acts.step c.station e).1
      → after.dropped ≡ c.dropped → Goes u t (event_bytes acts time c.station e) v s → Happened acts time c (e ∷ []) after u t v s
  one_happened time c after e u v t s is same goes =
      (event_bytes acts time c.station e, inl ([], sym (append-nil (event_bytes acts time c.station e)), (refl, is, same)), goes)

  -- an event came to this router: these packets were put on an empty list, and written
  pub put_happened : (time : ℕ) (c after : Counted S) (e : Event) (puts old : List Put) (before r : S) (dropped : ℕ) (u v : Option (List ℕ))
      (t s : List ℕ) → record { station = before; dropped = dropped } ≡ c → r ≡ (acts.step before e).1 → puts ≡ old ++ (acts.step before e).0 → old ≡ []
      → after.station ≡ r → after.dropped ≡ dropped → Goes u t (puts_bytes (acts.ports r) time puts) v s → Happened acts time c (e ∷ []) after u t v s
  put_happened time c after e puts old before r dropped u v t s view is put none same kept goes =
      let all : puts ≡ (acts.step before e).0 = put ∙ ap (λ (l : List Put). l ++ (acts.step before e).0) none in
      let bytes : puts_bytes (acts.ports r) time puts ≡ event_bytes acts time before e =
      ap (λ (x : S). puts_bytes (acts.ports x) time puts) is ∙ ap (λ (l : List Put). puts_bytes (acts.ports (acts.step before e).1) time l) all in
      subst (λ (x : Counted S). Happened acts time x (e ∷ []) after u t v s) view
      (one_happened time (record { station = before; dropped = dropped }) after e u v t s (same ∙ is) kept (subst (λ (b : List ℕ). Goes u t b v s) bytes goes))

  -- an event was dropped by this router
  pub dropped_happened : (time : ℕ) (c after : Counted S) (e : Event) (before : S) (dropped : ℕ) (u : Option (List ℕ)) (t : List ℕ)
      → record { station = before; dropped = dropped } ≡ c → after.station ≡ before → after.dropped ≡ one_more dropped
      → Happened acts time c (e ∷ []) after u t u t
  dropped_happened time c after e before dropped u t view same more =
      subst (λ (x : Counted S). Happened acts time x (e ∷ []) after u t u t) view ([], inr (refl, same, more), goes_none u t)

  -- some events happened, and then others
  pub both_happened : (time : ℕ) (es fs : List Event) (c mid after : Counted S) (u v w : Option (List ℕ)) (t s r : List ℕ) → Happened acts time c es mid u t v s
      → Happened acts time mid fs after v s w r → Happened acts time c (es ++ fs) after u t w r
  both_happened time es fs c mid after u v w t s r (a, came, gone) (b, others, went) = (
    a ++ b,
    came_both time es fs c.station mid.station after.station c.dropped mid.dropped after.dropped a b came others,
    goes_then u v w t s r a b gone went,
  )

  -- a tick, and then the others of some
  pub ticks_are : (count : ℕ) → 1 ≤ count → ticks count ≡ Tick ∷ ticks (count - 1)
  ticks_are zero some = absurd (omega (arith, some))
  ticks_are (suc n) some = ap (λ (k : ℕ). Tick ∷ ticks k) (omega arith)

  -- a tick passed, and then all others of some
  pub ticks_happened : (time count : ℕ) (c mid seen after : Counted S) (u v w : Option (List ℕ)) (t s r : List ℕ) → 1 ≤ count → seen ≡ mid
      → Happened acts time c (Tick ∷ []) mid u t v s → Happened acts time seen (ticks (count - 1)) after v s w r → Happened acts time c (ticks count) after u t w r
  ticks_happened time count c mid seen after u v w t s r some same first others =
      subst (λ (es : List Event). Happened acts time c es after u t w r) (sym (ticks_are count some))
      (both_happened time (Tick ∷ []) (ticks (count - 1)) c mid after u v w t s r first
      (subst (λ (x : Counted S). Happened acts time x (ticks (count - 1)) after v s w r) same others))

  -- no tick passed
  pub no_ticks : (time count : ℕ) (c : Counted S) (u : Option (List ℕ)) (t : List ℕ) → count ≡ 0 → Happened acts time c (ticks count) c u t u t
  no_ticks time count c u t none =
      subst (λ (n : ℕ). Happened acts time c (ticks n) c u t u t) (sym none) (none_happened time c u t)
