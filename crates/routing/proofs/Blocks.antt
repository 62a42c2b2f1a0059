-- What is written for a block.
use Rattle.std.proofs.Common.{◌≡◌, ℕ, ◌∙◌, List, [], ◌∷◌, ◌++◌, Option, Some, ap, refl, subst, sym}
use Rattle.std.proofs.lemmas.List.{append-nil}
use Rattle.cabled.specs.Acting.{Acting, Heard}
use Rattle.capture_feed.specs.Clocks.{ticks_by}
use Rattle.ethertalk.specs.Frames.{Framed}
use Rattle.pcapng.specs.Captures.{heartbeat_bytes}
use Rattle.pcapng.specs.Packets.{Packed}
use Rattle.pcapng.specs.Sections.{Told, beats, begins, describes, opens, packs, passes, skips}
use Rattle.routing.proofs.Coming.{both_happened}
use Rattle.routing.specs.Events.{clock_after, events_of, heard_on, packet_on, ports_after, ticks}
use Rattle.routing.specs.Called.{port_at}
use Rattle.routing.specs.Run.{Counted, Happened, Routed, Wrote, counted_in}
use Rattle.routing.specs.Streams.{answer_bytes, time_of}
use Rattle.text.proofs.Going.{goes_none, goes_then}
use Rattle.text.specs.Going.{Goes}

-- a block that brings nothing, and has no answer
abbrev pub IsQuiet : Told → Type 0
IsQuiet begins = Unit {0}
IsQuiet (opens i) = Unit {0}
IsQuiet (describes d) = Unit {0}
IsQuiet passes = Unit {0}
IsQuiet skips = Unit {0}
IsQuiet (packs p) = ⊥
IsQuiet (beats index time) = ⊥

module _ {S : Type 0} (acts : Acting S) where
  -- the frame that a port hears came, as there is one
  pub frame_happened : (time : ℕ) (c after : Counted S) (k : ℕ) (o : Option Framed) (f : Framed) (u v : Option (List ℕ)) (t s : List ℕ) → o ≡ Some f
      → Happened acts time c (Heard k f ∷ []) after u t v s → Happened acts time c (heard_on k o) after u t v s
  frame_happened time c after k o f u v t s is came =
      subst (λ (x : Option Framed). Happened acts time c (heard_on k x) after u t v s) (sym is) came

  quiet : (m after : Routed S) (t : Told) (u : Option (List ℕ)) (l : List ℕ) → IsQuiet t → after.calls ≡ m.calls
      → after.ports ≡ ports_after m.calls m.ports t → after.clock ≡ m.clock → after.station ≡ m.station → after.dropped ≡ m.dropped → Wrote acts m t after u l u l
  quiet m after begins u l is calls ports clock router dropped =
      ([], record { calls = calls; ports = ports; clock = clock; put = []; came = (refl, router, dropped); all = refl }, goes_none u l)
  quiet m after (opens i) u l is calls ports clock router dropped =
      ([], record { calls = calls; ports = ports; clock = clock; put = []; came = (refl, router, dropped); all = refl }, goes_none u l)
  quiet m after (describes d) u l is calls ports clock router dropped =
      ([], record { calls = calls; ports = ports; clock = clock; put = []; came = (refl, router, dropped); all = refl }, goes_none u l)
  quiet m after passes u l is calls ports clock router dropped =
      ([], record { calls = calls; ports = ports; clock = clock; put = []; came = (refl, router, dropped); all = refl }, goes_none u l)
  quiet m after skips u l is calls ports clock router dropped =
      ([], record { calls = calls; ports = ports; clock = clock; put = []; came = (refl, router, dropped); all = refl }, goes_none u l)
  quiet m after (packs p) u l is calls ports clock router dropped = absurd is
  quiet m after (beats index time) u l is calls ports clock router dropped = absurd is

  -- nothing was written for such a block
  pub wrote_quiet : (m seen after : Routed S) (t s : Told) (u : Option (List ℕ)) (l : List ℕ) → seen ≡ m → t ≡ s → IsQuiet s → after.calls ≡ seen.calls
      → after.ports ≡ ports_after seen.calls seen.ports s → after.clock ≡ seen.clock → after.station ≡ seen.station → after.dropped ≡ seen.dropped
      → Wrote acts m t after u l u l
  wrote_quiet m seen after t s u l view same is calls ports clock router dropped =
      subst (λ (x : Told). Wrote acts m x after u l u l) (sym same)
      (subst (λ (x : Routed S). Wrote acts x s after u l u l) view (quiet seen after s u l is calls ports clock router dropped))

  -- a block to which nothing is answered: its events happened
  pub wrote_events : (m after : Routed S) (t : Told) (u v : Option (List ℕ)) (l k : List ℕ) → after.calls ≡ m.calls
      → after.ports ≡ ports_after m.calls m.ports t → after.clock ≡ clock_after m.clock t → answer_bytes t ≡ []
      → Happened acts (time_of t) (counted_in m) (events_of m.ports m.clock t) (counted_in after) u l v k → Wrote acts m t after u l v k
  wrote_events m after t u v l k calls ports clock none (put, came, goes) = (
    put,
    record {
      calls = calls;
      ports = ports;
      clock = clock;
      put = put;
      came = came;
      all = sym (append-nil put) ∙ ap (λ (e : List ℕ). put ++ e) (sym none);
    },
    goes,
  )

  -- a heartbeat: its ticks happened, and then it was answered
  pub wrote_beat : (m after : Routed S) (index time : ℕ) (u v w : Option (List ℕ)) (l k j : List ℕ) → after.calls ≡ m.calls
      → after.ports ≡ m.ports → after.clock ≡ clock_after m.clock (beats index time)
      → Happened acts time (counted_in m) (ticks (ticks_by m.clock time)) (counted_in after) u l v k → Goes v k (heartbeat_bytes time) w j
      → Wrote acts m (beats index time) after u l w j
  wrote_beat m after index time u v w l k j calls ports clock (put, came, goes) answered = (
    put ++ heartbeat_bytes time,
    record { calls = calls; ports = ports; clock = clock; put = put; came = came; all = refl },
    goes_then u v w l k j put (heartbeat_bytes time) goes answered,
  )

  -- a packet: the ticks of its time happened, and then its frame came, if it has one
  pub wrote_seen : (m mid seen after : Routed S) (p : Packed) (k : Option ℕ) (u v w : Option (List ℕ)) (l j i : List ℕ) → mid.calls ≡ m.calls
      → mid.ports ≡ m.ports → mid.clock ≡ clock_after m.clock (packs p)
      → Happened acts p.time (counted_in m) (ticks (ticks_by m.clock p.time)) (counted_in mid) u l v j → seen ≡ mid → k ≡ port_at seen.ports p.interface
      → Happened acts p.time (counted_in seen) (packet_on k p) (counted_in after) v j w i → after.calls ≡ seen.calls → after.ports ≡ seen.ports
      → after.clock ≡ seen.clock → Wrote acts m (packs p) after u l w i
  wrote_seen m mid seen after p k u v w l j i calls ports clock ticked view is came same_calls same_ports same_clock =
      let same : seen.ports ≡ m.ports = ap (λ (x : Routed S). x.ports) view ∙ ports in
      let here : k ≡ port_at m.ports p.interface = is ∙ ap (λ (x : List (Option ℕ)). port_at x p.interface) same in
      let frame = subst (λ (x : Option ℕ). Happened acts p.time (counted_in seen) (packet_on x p) (counted_in after) v j w i) here came in
      let first = subst (λ (x : Routed S). Happened acts p.time (counted_in m) (ticks (ticks_by m.clock p.time)) (counted_in x) u l v j) (sym view) ticked in
      wrote_events m after (packs p) u w l i (same_calls ∙ ap (λ (x : Routed S). x.calls) view ∙ calls) (same_ports ∙ same)
      (same_clock ∙ ap (λ (x : Routed S). x.clock) view ∙ clock) refl
      (both_happened acts p.time (ticks (ticks_by m.clock p.time)) (packet_on (port_at m.ports p.interface) p) (counted_in m) (counted_in seen) (counted_in after)
      u v w l j i first frame)
