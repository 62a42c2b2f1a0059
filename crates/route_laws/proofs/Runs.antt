-- Datagrams in a run of events, and the events of a run over a capture.
use Rattle.std.proofs.Common.{◌≡◌, ◌⊎◌, inl, inr, ℕ, ◌+◌, ◌≤◌, ◌∙◌, Bool, List, [], ◌∷◌, ◌++◌, ap, arith, refl, subst, sym}
use Rattle.cabled.specs.Acting.{Event}
use Rattle.cabled.specs.Steps.{Running, router_acts, step}
use Rattle.pcapng.specs.Sections.{Told}
use Rattle.route_laws.proofs.Counting.{count_both}
use Rattle.route_laws.proofs.Passing.{passed_once}
use Rattle.route_laws.proofs.Stepping.{step_counted}
use Rattle.route_laws.specs.Carrying.{AreSome, HasKept, after_all, all_brought, all_bytes, all_made, all_put, brought_by, datagrams_in, events_in, kept_in, made_for, passed_for, run_bytes, waiting_in}
use Rattle.routing.specs.Events.{clock_after, events_of, ports_after}
use Rattle.routing.specs.Run.{Came, HasHeard, HaveHeard, Routed, one_more}
use Rattle.routing.specs.Streams.{answer_bytes, event_bytes, time_of}
use Rattle.station.specs.Lawful.{count}

-- ---- Counts

passed_few : (test : List ℕ → Bool) (r : Running) (e : Event) → count test (passed_for r e) ≤ count test (brought_by e)
passed_few test r e = by (passed_once r e)
  where
    by : (passed_for r e ≡ []) ⊎ (passed_for r e ≡ brought_by e) → count test (passed_for r e) ≤ count test (brought_by e)
    by (inl none) =
        let same = ap (λ (l : List (List ℕ)). count test l) none in
        omega (arith, same)
    by (inr all) =
        let same = ap (λ (l : List (List ℕ)). count test l) all in
        omega (arith, same)

-- What is put for some events, and what waits then, is no more than what waited before, what is made, and what they bring.
pub carried : (r : Running) (es : List Event) (test : List ℕ → Bool)
    → count test (all_put r es) + count test (waiting_in (after_all router_acts r es).ports)
    ≤ count test (waiting_in r.ports) + count test (all_made r es) + count test (all_brought es)
carried r [] test = omega arith
carried r (e ∷ es) test =
    let first = step_counted test r e in
    let passed = passed_few test r e in
    let others = carried (step r e).1 es test in
    let put = count_both test (datagrams_in (step r e).0) (all_put (step r e).1 es) in
    let made = count_both test (made_for r e) (all_made (step r e).1 es) in
    let brought = count_both test (brought_by e) (all_brought es) in
    omega (arith, first, passed, others, put, made, brought)

-- ---- The events that weren't dropped

-- the events of a block that weren't dropped
record HasCome (time : ℕ) (r after : Running) (es : List Event) (bytes : List ℕ) : Type 0 where
  kept : List Event
  some : AreSome kept es
  bytes_are : bytes ≡ all_bytes router_acts time r kept
  after_is : after ≡ after_all router_acts r kept

come : (time : ℕ) (r after : Running) (es : List Event) (d d1 : ℕ) (bytes : List ℕ) → Came router_acts time r es d bytes after d1
    → HasCome time r after es bytes
come time r after [] d d1 bytes (nothing, same, rest) = record { kept = []; some = refl; bytes_are = nothing; after_is = same }
come time r after (e ∷ es) d d1 bytes (inl (rest, is, came)) =
    let others = come time (step r e).1 after es d d1 rest came in
    record {
      kept = e ∷ others.kept;
      some = inr (others.kept, refl, others.some);
      bytes_are = is ∙ ap (λ (l : List ℕ). event_bytes router_acts time r e ++ l) others.bytes_are;
      after_is = others.after_is;
    }
come time r after (e ∷ es) d d1 bytes (inr came) =
    let others = come time r after es (one_more d) d1 bytes came in
    record { kept = others.kept; some = inl others.some; bytes_are = others.bytes_are; after_is = others.after_is }

-- some of two lists of events
some_both : (fs gs es hs : List Event) → AreSome fs es → AreSome gs hs → AreSome (fs ++ gs) (es ++ hs)
some_both fs gs [] hs none others = subst (λ (l : List Event). AreSome (l ++ gs) hs) (sym none) others
some_both fs gs (e ∷ es) hs (inl some) others = inl (some_both fs gs es hs some others)
some_both fs gs (e ∷ es) hs (inr (rest, is, some)) others =
    inr (rest ++ gs, ap (λ (l : List Event). l ++ gs) is, some_both rest gs es hs some others)

-- the router after the events of two lists
after_both : (r : Running) (es fs : List Event) → after_all router_acts r (es ++ fs) ≡ after_all router_acts (after_all router_acts r es) fs
after_both r [] fs = refl
after_both r (e ∷ es) fs = after_both (step r e).1 es fs

-- what a router wrote for some blocks is what it puts for those of their events that weren't dropped
pub kept_of : (m after : Routed Running) (ts : List Told) (bytes : List ℕ) → HaveHeard router_acts m ts bytes after → HasKept m after ts bytes
kept_of m after [] bytes (none, same) =
    record { blocks = []; all = refl; some = refl; written = none; router = ap (λ (x : Routed Running). x.station) same }
kept_of m after (t ∷ ts) bytes (mid, first, rest, heard, others, all) = more heard (kept_of mid after ts rest others)
  where
    more : HasHeard router_acts m t first mid → HasKept mid after ts rest → HasKept m after (t ∷ ts) bytes
    more h k =
        let c = come (time_of t) m.station mid.station (events_of m.ports m.clock t) m.dropped mid.dropped h.put h.came in
        let later : List Event = events_in mid.calls mid.ports mid.clock ts in
        let same : later ≡ events_in m.calls (ports_after m.calls m.ports t) (clock_after m.clock t) ts = rw (h.calls, h.ports, h.clock) refl in
        let some = some_both c.kept (kept_in k.blocks) (events_of m.ports m.clock t) later c.some k.some in
        let router = k.router ∙ ap (λ (x : Running). after_all router_acts x (kept_in k.blocks)) c.after_is in
        let put = h.all ∙ ap (λ (l : List ℕ). l ++ answer_bytes t) c.bytes_are in
        let next = k.written ∙ ap (λ (x : Running). run_bytes x k.blocks) c.after_is in
        record {
          blocks = (t, c.kept) ∷ k.blocks;
          all = ap (λ (l : List Told). t ∷ l) k.all;
          some = subst (λ (l : List Event). AreSome (c.kept ++ kept_in k.blocks) (events_of m.ports m.clock t ++ l)) same some;
          written = all ∙ ap (λ (l : List ℕ). l ++ rest) put
              ∙ ap (λ (l : List ℕ). all_bytes router_acts (time_of t) m.station c.kept ++ answer_bytes t ++ l) next;
          router = router ∙ sym (after_both m.station c.kept (kept_in k.blocks));
        }
