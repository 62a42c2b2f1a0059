-- Runs grow: new entries come after the earlier ones.
use Rattle.std.proofs.Common.{◌≡◌, ◌≢◌, ℕ, ◌+◌, ◌<◌, ◌≤◌, List, [], ◌++◌, Option, Some, None, Result, Ok, Err, inl, inr}
use Rattle.std.proofs.Common.{true, false, ◌==◌, drop, length, slice_get, take, ap, ap₂, sym, subst, refl, ◌∙◌, arith}
use Rattle.std.proofs.Math.Seq.{drop-append_seam, take-append_seam}
use Rattle.std.proofs.lemmas.List.{append_assoc, append-nil, length-append, length-map}
use Rattle.at_base.specs.declared.error.Error.{Error}
use Rattle.at_base.specs.declared.error.Error.TheVariants.{Memory}
use Rattle.cable_model.specs.Logs.{entry_at, transcript}
use Rattle.frozen.proofs.Refused.{take_one}
use Rattle.cable_model.specs.Transcript.{Entry}
use Rattle.cable_model.specs.declared.entry.Entry.{Entry as Line}
use Rattle.events.specs.declared.event.Event.{Event}
use Rattle.events.specs.declared.event.Event.TheVariants as event
use Rattle.frozen.specs.Events.{DrainStops, Drained, DrainsTo, Happens, IsRefused, Sends, Taken, Takes, Undrained, header_for, refusal}
use Rattle.frozen.specs.Orders.{ask_data, ask_order, bytes_for, send_order}
use Rattle.frozen.specs.Runs.{Running, TakenBy, cabling, pending_in}
use Rattle.frozen.specs.declared.order.Order.{Order}
use Rattle.image_stations.specs.Finding.{station_at}
use Rattle.frozen.proofs.Grown.{sent_grown, taken_grown}
use Rattle.legal_runs.specs.Legs.{places_of}
use Rattle.frozen_trace.proofs.EntryLines.{cables_append, lines_append, printed}
use Rattle.frozen_trace.specs.Traces.{StepPrints, Played, StepsPrint, Refusing, added, all_printed, cables_of, refused_line, told}
use Rattle.script.specs.declared.step.Step.{Step}
use Rattle.script.specs.declared.step.Step.TheVariants as step
use Rattle.trace_lines.specs.Lines.{Printed, lines, with_cables}
use Rattle.trace_lines.specs.Stations.{addresses_of}

-- The internet stays the same, and these entries come after the earlier ones.
pub record Grows (a b : Running) (more : List Entry) : Type 0 where
  pub internet : b.internet ≡ a.internet
  pub said : transcript (cabling b) ≡ transcript (cabling a) ++ more

pub grows_none : (a : Running) → Grows a a []
grows_none a = record { internet = refl; said = sym (append-nil (transcript (cabling a))) }

pub grows_then : (a b c : Running) (m n : List Entry) → Grows a b m → Grows b c n → Grows a c (m ++ n)
grows_then a b c m n x y = record {
  internet = y.internet ∙ x.internet;
  said = y.said ∙ ap (λ (t : List Entry). t ++ n) x.said ∙ append_assoc (transcript (cabling a)) m n;
}

sends_grow : (old new : Running) (r : Result Order Error) (payload : List ℕ) → Sends old r payload new
    → (m : List Entry) × Grows old new m
sends_grow old new (Err e) payload s = absurd s
sends_grow old new (Ok o) payload s =
    let w = sent_grown (places_of old.internet) o.station o.cable o.next (bytes_for o payload) old.wiring new.wiring s.sent in
    (w.0, record { internet = s.internet; said = w.1 })

pub taken_grows : (old new : Running) (stamp s : ℕ) → TakenBy old stamp s new → (m : List Entry) × Grows old new m
taken_grows old new stamp s t =
    let w = taken_grown (places_of old.internet) stamp s _ _ old.wiring new.wiring t.taken.taken in
    (w.0, record { internet = t.internet; said = w.1 })

takes_grow : (old new : Running) (stamp : ℕ) (s : Option ℕ) → Takes old stamp s new → (m : List Entry) × Grows old new m
takes_grow old new stamp None t = absurd t
takes_grow old new stamp (Some s) t = taken_grows old new stamp s t

-- The entries that an event adds.
pub happens_grows : (old new : Running) (e : Event) → Happens old e new → (m : List Entry) × Grows old new m
happens_grows old new (event.Send node via target target_socket source_socket kind summed payload) h =
    sends_grow old new
    (send_order old.internet node via (header_for target target_socket source_socket kind summed) (length payload)) payload h
happens_grows old new (event.Request node via id name) h =
    sends_grow old new (ask_order old.internet node via) (ask_data old.internet node id name) h
happens_grows old new (event.Take stamp station) h = takes_grow old new stamp (station_at old.internet station) h

-- The entries that takes add.
pub drained_grows : (old new : Running) (n : ℕ) → Drained old n new → (m : List Entry) × Grows old new m
drained_grows old new n (Undrained r) = ([], grows_none old)
drained_grows old new n (Taken a between b k stamp s before next ok taken) =
    let first = drained_grows old between k before in
    let last = taken_grows between new stamp s taken in
    (first.0 ++ last.0, grows_then old between new first.0 last.0 first.1 last.1)

-- Takes after other takes.
pub drained_more : (a b c : Running) (k n : ℕ) → Drained a k b → Drained b n c → Drained a (k + n) c
drained_more a b c k n x (Undrained r) = subst (λ (i : ℕ). Drained a i r) (nothing k) x
  where
    nothing : (k : ℕ) → k ≡ k + 0
    nothing k = omega arith
drained_more a b c k n x (Taken o between e j stamp s before next ok taken) =
    subst (λ (i : ℕ). Drained a i c) (one_later k j)
    (Taken a between c (k + j) stamp s (drained_more a b between k j x before) next ok taken)
  where
    one_later : (k j : ℕ) → k + j + 1 ≡ k + (j + 1)
    one_later k j = omega arith

-- Without takes, nothing changes.
pub undrained : (a b : Running) (n : ℕ) → n ≡ 0 → Drained a n b → b ≡ a
undrained a b n z (Undrained r) = refl
undrained a b n z (Taken o between e j stamp s before next ok taken) = absurd (not_one j z)
  where
    not_one : (j : ℕ) → j + 1 ≡ 0 → ⊥
    not_one j z = omega arith

pub entries_number : (a : Running) → length (transcript (cabling a)) ≡ length (cabling a).lines
entries_number a = length-map (cabling a).lines (entry_at (cabling a).kept)

pub added_are : (a b : Running) (m : List Entry) → Grows a b m → added a b ≡ m
added_are a b m x =
    ap (λ (l : List Entry). drop (length (cabling a).lines) l) x.said
    ∙ ap (λ (n : ℕ). drop n (transcript (cabling a) ++ m)) (sym (entries_number a)) ∙ drop-append_seam (transcript (cabling a)) m

pub first_are : (a b : Running) (m : List Entry) → Grows a b m
    → take (length (cabling a).lines) (transcript (cabling b)) ≡ transcript (cabling a)
first_are a b m x =
    ap (λ (l : List Entry). take (length (cabling a).lines) l) x.said
    ∙ ap (λ (n : ℕ). take n (transcript (cabling a) ++ m)) (sym (entries_number a)) ∙ take-append_seam (transcript (cabling a)) m

-- A run doesn't have fewer entries than before.
pub no_fewer : (a b : Running) (m : List Entry) → Grows a b m → length (cabling a).lines ≤ length (cabling b).lines
no_fewer a b m x =
    let one : length (transcript (cabling b)) ≡ length (transcript (cabling a)) + length m =
    ap length x.said ∙ length-append (transcript (cabling a)) m in
    subst (λ n. n ≤ length (cabling b).lines) (entries_number a)
    (subst (λ n. length (transcript (cabling a)) ≤ n) (entries_number b)
    (subst (λ n. length (transcript (cabling a)) ≤ n) (sym one) (omega arith)))

-- The lines of one growth, followed by those of another.
pub told_then : (a b c : Running) (m n : List Entry) → Grows a b m → Grows b c n → told a c ≡ told a b ++ told b c
told_then a b c m n x y =
    let ca : List ℕ = cables_of (transcript (cabling a)) in
    let cb : List ℕ = cables_of (transcript (cabling b)) in
    let known : cb ≡ with_cables ca m =
    ap cables_of x.said ∙ cables_append [] (transcript (cabling a)) m in
    ap (lines (addresses_of a.internet) ca) (added_are a c (m ++ n) (grows_then a b c m n x y))
    ∙ lines_append (addresses_of a.internet) ca m n
    ∙ ap (λ (k : List ℕ). lines (addresses_of a.internet) ca m ++ lines (addresses_of a.internet) k n) (sym known)
    ∙ ap (λ i. lines (addresses_of a.internet) ca m ++ lines (addresses_of i) cb n) (sym x.internet)
    ∙ ap (λ (l : List Entry). lines (addresses_of a.internet) ca l ++ lines (addresses_of b.internet) cb n) (sym (added_are a b m x))
    ∙ ap (λ (l : List Entry). told a b ++ lines (addresses_of b.internet) cb l) (sym (added_are b c n y))

pub told_none : (a : Running) → told a a ≡ []
told_none a = ap (lines (addresses_of a.internet) (cables_of (transcript (cabling a)))) (added_are a a [] (grows_none a))

-- The lines of a growth, printed after all earlier entries.
pub record Prints (a b : Running) (known : Printed) (before : List Line) : Type 0 where
  pub inside : length before ≤ length (cabling b).lines
  pub frames : known ≡ printed (addresses_of b.internet) (cables_of (take (length before) (transcript (cabling b))))
  pub told_is : lines known.addresses known.cables (drop (length before) (transcript (cabling b))) ≡ told a b

pub prints : (a b : Running) (m : List Entry) (known : Printed) (before : List Line) → Grows a b m
    → known ≡ all_printed a → before ≡ (cabling a).lines → Prints a b known before
prints a b m known before x k l = record {
  inside = subst (λ (t : List Line). length t ≤ length (cabling b).lines) (sym l) (no_fewer a b m x);
  frames =
      k
      ∙ ap₂ printed (ap addresses_of (sym x.internet)) (ap cables_of (sym (first_are a b m x))
      ∙ ap (λ (t : List Line). cables_of (take (length t) (transcript (cabling b)))) (sym l));
  told_is =
      ap (λ (p : Printed). lines p.addresses p.cables (drop (length before) (transcript (cabling b)))) k
      ∙ ap (λ (t : List Line). lines (addresses_of a.internet) (cables_of (transcript (cabling a)))
      (drop (length t) (transcript (cabling b)))) l;
}

-- An event with an error other than Memory.
pub refusing : (old new : Running) (e : Event) (error : Error) → new ≡ old → IsRefused (refusal old e) error → error ≢ Memory
    → StepPrints old (step.Event e) (refused_line error) new
refusing old new e error kept (inl own) other =
    subst (λ (r : Running). StepPrints old (step.Event e) (refused_line error) r) (sym kept) (Refusing old e error own)
refusing old new e error kept (inr memory) other = absurd (other memory.0)

-- The steps up to one, followed by that one.
pub play_one : (old between new : Running) (steps : List Step) (k : ℕ) (s : Step) (text more : List ℕ)
    → slice_get steps k ≡ Some s → StepsPrint old (take k steps) text between → StepPrints between s more new
    → StepsPrint old (take (k + 1) steps) (text ++ more) new
play_one old between new steps k s text more at before one =
    subst (λ (l : List Step). StepsPrint old l (text ++ more) new) (sym (take_one steps k s at))
    (Played old between new (take k steps) s text more before one)

-- Takes up to one after which something is pending.
pub drain_on : (a b c : Running) (k : ℕ) → Drained a k b → DrainsTo b 1 false c → Drained a (k + 1) c
drain_on a b c k before one =
    subst (λ (n : ℕ). Drained a (k + n) c) (one.all refl) (drained_more a b c k one.number before one.drained)

-- Takes up to one after which nothing is pending.
pub drain_out : (a b c : Running) (k most : ℕ) → k < most → Drained a k b → DrainsTo b 1 true c → DrainsTo a most true c
drain_out a b c k most more before one = record {
  number = k + one.number;
  few = within k one.number most more one.few;
  drained = drained_more a b c k one.number before one.drained;
  left = one.left;
  all = λ odd. absurd cc;
}
  where
    within : (k n most : ℕ) → k < most → n ≤ 1 → k + n ≤ most
    within k n most more few = omega (arith, more, few)

-- As many takes as the step says.
pub drain_full : (a b : Running) (k most : ℕ) → k ≡ most → Drained a k b
    → DrainsTo a most (length (pending_in b) == 0) b
drain_full a b k most full before = record {
  number = k;
  few = subst (λ n. k ≤ n) full (omega arith);
  drained = before;
  left = refl;
  all = λ left. full;
}

-- A take after others has an error.
pub drain_stops : (a b c : Running) (k most : ℕ) (e : Error) → k < most → Drained a k b → DrainStops b 1 e c
    → (c ≡ b) × DrainStops a most e c
drain_stops a b c k most e more before stop =
    let same : c ≡ b = undrained b c stop.number (none stop.number stop.few) stop.drained in (
      same,
      record {
        number = k;
        few = more;
        drained = subst (Drained a k) (sym same) before;
        stamp = stop.stamp;
        station = stop.station;
        next = stop.next;
        refused = stop.refused;
      },
    )
  where
    none : (n : ℕ) → n < 1 → n ≡ 0
    none n few = omega (arith, few)
