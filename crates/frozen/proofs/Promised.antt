-- Consequences for a run over frozen tables.
use Rattle.std.proofs.Common.{Err, List, None, Ok, Option, Result, Some, ap, length, refl, sym, ℕ, ◌∙◌, ◌≡◌}
use Rattle.at_base.specs.declared.error.Error.{Error}
use Rattle.audit.specs.Rules.{Passes}
use Rattle.cable_model.specs.Logs.{transcript as said}
use Rattle.cable_model.specs.Pending.{pending}
use Rattle.events.specs.declared.event.Event.{Event}
use Rattle.events.specs.declared.event.Event.TheVariants.{Send, Request, Take}
use Rattle.frozen.specs.Events.{Another, Happened, Happens, Nothing, Sends, Takes, header_for}
use Rattle.frozen.specs.Orders.{ask_data, ask_order, send_order}
use Rattle.frozen.specs.Promises.{AreAllAskedFor, AreAllCarried, AreAllHeard, AreAskedForOn, AreCarriedOn, AreHeardOn, HasHops, HasHopsOn}
use Rattle.frozen.specs.Promises.{HaveOnlyAsked}
use Rattle.frozen.specs.Promises.{IsEachOnce, IsEachOnceOn, IsLookedUpOn, LooksUp}
use Rattle.frozen.specs.Runs.{IsFrozen, IsLegalOn, Running}
use Rattle.frozen.specs.declared.order.Order.{Order}
use Rattle.image_stations.specs.Finding.{station_at}
use Rattle.legal_runs.specs.Legal.{IsLegal}
use Rattle.resolved_runs.specs.Fitting.{SeatsFit}
use Rattle.resolved_runs.specs.ResolvedRuns.{IsLegalResolved}
use Rattle.table_image.specs.declared.version.Version.TheVariants.{V1, V2}
use Rattle.legal_runs.proofs.Carried.{are_carried}
use Rattle.legal_runs.proofs.Conserved.{conserved, hops_are_left}
use Rattle.legal_runs.proofs.LookedUp.{are_looked_up}
use Rattle.legal_runs.proofs.Handing.{are_by_hand}
use Rattle.legal_runs.proofs.Takers.{are_taken_there}
use Rattle.legal_runs.proofs.LossyLaws.{handed_with_losses}
use Rattle.legal_runs.specs.Lookups.{NodesOnlyAsk}
use Rattle.legal_runs.specs.Stations.{cable_seats}
use Rattle.resolved_runs.proofs.AskedRuns.{asked_for}
use Rattle.resolved_runs.proofs.Balances.{conserved_resolved, hops_resolved, looked_up_resolved}
use Rattle.resolved_runs.proofs.CarriedOrHeld.{carried_or_held}
use Rattle.resolved_runs.proofs.Erased.{erases}
use Rattle.resolved_runs.proofs.Heard.{heard_always, heard_resolved}
use Rattle.resolved_runs.proofs.HeldStamps.{held_once, put_once}
use Rattle.resolved_runs.proofs.Rings.{rings}
use Rattle.resolved_runs.proofs.TakenThere.{taken_there}
use Rattle.resolved_runs.specs.Plain.{plain}
use Rattle.run_cables.specs.Wired.{cabling_of, happened}
use Rattle.run_cables.specs.declared.wiring.Wiring.{Wiring}
use Rattle.run_cables.specs.declared.wiring.Wiring.TheVariants.{Asking, Known}
use Rattle.table_image.specs.Internet.{Internet}

-- ---- Each promise, by the two kinds of cables

each_once_on : (i : Internet) (w : Wiring) → Passes i → IsLegalOn i w → IsEachOnceOn i w
each_once_on i (Known c) ok legal = conserved i (said c) ok legal.1
each_once_on i (Asking w) ok legal =
    let e = erases i ok legal.1 (said w.cabling) legal.2 in
    conserved_resolved i (said w.cabling) ok e.told e.legal

has_hops_on : (i : Internet) (w : Wiring) → Passes i → IsLegalOn i w → HasHopsOn i w
has_hops_on i (Known c) ok legal = hops_are_left i (said c) ok legal.1
has_hops_on i (Asking w) ok legal =
    let e = erases i ok legal.1 (said w.cabling) legal.2 in
    hops_resolved i (said w.cabling) ok e.told e.legal

all_carried_on : (i : Internet) (w : Wiring) → Passes i → IsLegalOn i w → AreCarriedOn i w
all_carried_on i (Known c) ok legal =
    (are_carried i (said c) ok legal.1, are_taken_there i (said c) ok legal.1, are_by_hand i ok (said c) legal.1)
all_carried_on i (Asking w) ok legal =
    let t = said w.cabling in
    let e = erases i ok legal.1 t legal.2 in
    (carried_or_held i ok t e.told e.legal, taken_there i t e.told, handed_with_losses i (plain i t) ok e.legal)

looks_up_on : (i : Internet) (w : Wiring) → Passes i → IsLegalOn i w → NodesOnlyAsk i (happened w) → (k : List ℕ) → IsLookedUpOn i w k
looks_up_on i (Known c) ok legal only k = are_looked_up i (said c) k ok legal.1 only
looks_up_on i (Asking w) ok legal only k =
    let e = erases i ok legal.1 (said w.cabling) legal.2 in
    looked_up_resolved i (said w.cabling) ok e.told e.legal k only

asked_for_on : (i : Internet) (w : Wiring) → Passes i → IsLegalOn i w → AreAskedForOn i w
asked_for_on i (Known c) ok legal = tt
asked_for_on i (Asking w) ok legal =
    let t = said w.cabling in
    let e = erases i ok legal.1 t legal.2 in
    let r = rings i t legal.2 in
    (held_once i t e.told, put_once i t e.told, asked_for i ok legal.1 t legal.2, r.reached, r.shed)

heard_on : (i : Internet) (w : Wiring) → Passes i → (cabling_of w).seats ≡ cable_seats i → IsLegalOn i w → AreHeardOn i w
heard_on i (Known c) ok seats legal = tt
heard_on i (Asking w) ok seats legal =
    let t = said w.cabling in
    let e = erases i ok legal.1 t legal.2 in (
      heard_always i t ok e.told e.legal,
      λ rest. heard_resolved i t ok e.told e.legal (asked_for i ok legal.1 t legal.2) (ap (λ ss. pending ss t) (sym seats) ∙ rest),
    )

pub each_once : (r : Running) → IsFrozen r → IsEachOnce r
each_once r f = each_once_on r.internet r.wiring f.passes f.legal

pub has_hops : (r : Running) → IsFrozen r → HasHops r
has_hops r f = has_hops_on r.internet r.wiring f.passes f.legal

pub all_carried : (r : Running) → IsFrozen r → AreAllCarried r
all_carried r f = all_carried_on r.internet r.wiring f.passes f.legal

pub looks_up : (r : Running) → IsFrozen r → HaveOnlyAsked r → LooksUp r
looks_up r f only = (only, looks_up_on r.internet r.wiring f.passes f.legal only)

pub all_asked_for : (r : Running) → IsFrozen r → AreAllAskedFor r
all_asked_for r f = asked_for_on r.internet r.wiring f.passes f.legal

pub all_heard : (r : Running) → IsFrozen r → AreAllHeard r
all_heard r f = heard_on r.internet r.wiring f.passes f.seats f.legal

-- ---- By the image's version

-- The transcript of a run over an image of version 1 is legal.
pub legal_known : (i : Internet) (w : Wiring) → IsLegalOn i w → i.version ≡ V1 → IsLegal i (happened w)
legal_known i (Known c) legal v = legal.1
legal_known i (Asking w) legal v = absurd (two_is_one (sym legal.0 ∙ v))
  where
    two_is_one : V2 ≡ V1 → ⊥
    two_is_one e = cc

-- The transcript of a run over an image of version 2 is legal with resolution.
pub legal_resolved : (i : Internet) (w : Wiring) → IsLegalOn i w → i.version ≡ V2 → SeatsFit i × IsLegalResolved i (happened w)
legal_resolved i (Known c) legal v = absurd (one_is_two (sym legal.0 ∙ v))
  where
    one_is_two : V1 ≡ V2 → ⊥
    one_is_two e = cc
legal_resolved i (Asking w) legal v = (legal.1, legal.2)

-- ---- The internet stays the same

sends_stays : (old new : Running) (o : Result Order Error) (payload : List ℕ) → Sends old o payload new
    → new.internet ≡ old.internet
sends_stays old new (Err e) payload h = absurd h
sends_stays old new (Ok o) payload h = h.internet

takes_stays : (old new : Running) (stamp : ℕ) (s : Option ℕ) → Takes old stamp s new → new.internet ≡ old.internet
takes_stays old new stamp None h = absurd h
takes_stays old new stamp (Some s) h = h.internet

event_stays : (old new : Running) (e : Event) → Happens old e new → new.internet ≡ old.internet
event_stays old new (Send node via target target_socket source_socket kind summed payload) h =
    sends_stays old new
    (send_order old.internet node via (header_for target target_socket source_socket kind summed) (length payload)) payload h
event_stays old new (Request node via id name) h =
    sends_stays old new (ask_order old.internet node via) (ask_data old.internet node id name) h
event_stays old new (Take stamp station) h = takes_stays old new stamp (station_at old.internet station) h

pub internet_stays : (old new : Running) (es : List Event) → Happened old es new → new.internet ≡ old.internet
internet_stays old new es (Nothing r) = refl
internet_stays old new es (Another from between to front e before none happens) =
    event_stays between new e happens ∙ internet_stays old between front before
