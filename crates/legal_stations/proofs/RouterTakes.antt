-- If a router takes a frame, the entries that follow are a block of a legal transcript.
use Rattle.std.proofs.Common.{◌≡◌, ℕ, ◌+◌, List, ◌∷◌, ◌++◌, append-nil, sym, ap, ◌∙◌, subst}
use Rattle.std.specs.Prelude.{Contains}
use Rattle.std.specs.List.{AllByRecursion as Each}
use Rattle.audit.specs.Rules.{Passes}
use Rattle.cable_model.specs.Outcomes.{all_entries, heard_by, leg as leg_on, sender_by}
use Rattle.cable_model.specs.Pending.{Pair, pending}
use Rattle.cable_model.specs.Transcript.{Entry, Took, stamps}
use Rattle.image_stations.specs.Holders.{HoldsRouter}
use Rattle.legal_stations.specs.Made.{legs}
use Rattle.legal_runs.specs.Legal.{Block, IsLegal, Takes, handled as handled_in}
use Rattle.legal_runs.specs.Legs.{fate as fate_in, leg, leg_bytes, places_of}
use Rattle.legal_stations.specs.Fated.{DroppedHere, IsFate, KeptHere, NoFate, PassedOn}
use Rattle.resolved_runs.specs.Fates.{fate_with}
use Rattle.resolved_runs.proofs.Fates.{same_fate}
use Rattle.legal_runs.specs.Stations.{cable_seats}
use Rattle.router.specs.Answers.{Hears, followed, handled, heard_datagram, heard_kind}
use Rattle.router.specs.Forwarding.{fate}
use Rattle.router.specs.Holding.{Holding}
use Rattle.router.specs.declared.course.Course.{Course}
use Rattle.station.specs.Lawful.{AreLawful, IsGood}
use Rattle.station.specs.declared.output.Output.{Output}
use Rattle.table_image.specs.Bounds.{IsBounded}
use Rattle.table_image.specs.Internet.{Internet}
use Rattle.legal_stations.proofs.Arrivals.{Arrives, arrives}
use Rattle.legal_stations.proofs.Asked.{Answered}
use Rattle.legal_stations.proofs.Courses.{course_comes, the_course}
use Rattle.legal_stations.proofs.Datagrams.{inside}
use Rattle.legal_stations.proofs.Leaving.{entries_more, legs_here, legs_made, said_is}
use Rattle.legal_stations.proofs.Making.{each_front, each_of}
use Rattle.legal_stations.proofs.Served.{ending_answer}

-- The entries of the outputs of a fate.
fate_entries : (i : Internet) (p : Pair) (stamp : ℕ) (front : List Output)
    → IsFate i p.seat.station (λ leg. fate_with i leg p) front
    → all_entries (places_of i) (cable_seats i) p.seat.station stamp front ≡ fate_in i stamp p
fate_entries i p stamp front (NoFate is) = sym (is (leg i stamp)) ∙ same_fate i stamp p
fate_entries i p stamp front (KeptHere q bytes is) = sym (is (leg i stamp)) ∙ same_fate i stamp p
fate_entries i p stamp front (DroppedHere cause bytes is) = sym (is (leg i stamp)) ∙ same_fate i stamp p
fate_entries i p stamp front (PassedOn q l mine on seated is) =
    append-nil (leg_on (places_of i) (sender_by (cable_seats i) p.seat.station stamp q) l.next (leg_bytes l))
    ∙ (ap (λ c. leg_on (places_of i) (record { stamp = stamp; cable = c; station = p.seat.station }) l.next (leg_bytes l)) on
    ∙ (ap (λ s. leg_on (places_of i) (record { stamp = stamp; cable = l.cable; station = s }) l.next (leg_bytes l)) (sym mine)
    ∙ (sym (is (leg i stamp)) ∙ same_fate i stamp p)))

-- The outputs of a station that took a pair: those of the fate, and the datagrams that the station made in answer.
pub record TakesSo (i : Internet) (p : Pair) (added : List Output) : Type 0 where
  pub front : List Output
  pub made : List Output
  pub outputs : added ≡ front ++ made
  pub fate : IsFate i p.seat.station (λ leg. fate_with i leg p) front
  pub answered : Answered i p made

-- The entries of a fate, followed by those of the made datagrams.
entries_are : (i : Internet) (p : Pair) (stamp : ℕ) (front made : List Output)
    → all_entries (places_of i) (cable_seats i) p.seat.station stamp front ≡ fate_in i stamp p → Answered i p made
    → all_entries (places_of i) (cable_seats i) p.seat.station stamp (front ++ made)
    ≡ handled_in i stamp p (legs i p.seat.station made)
entries_are i p stamp front made fate_is w =
    let r = p.seat.station in
    let after = all_entries (places_of i) (cable_seats i) r in
    entries_more i r stamp front made
    ∙ (ap (λ es. es ++ after (stamp + stamps es) made) fate_is
    ∙ ap (λ es. fate_in i stamp p ++ es) (said_is i r (stamp + stamps (fate_in i stamp p)) made w.leaves))

-- The block of a station that takes a frame, with the frame's fate and the station's answers.
pub block_is : (i : Internet) (t : List Entry) (p : Pair) (added : List Output) → Contains (pending (cable_seats i) t) p
    → TakesSo i p added
    → Block i t (Took p.frame.stamp p.seat.station
    ∷ all_entries (places_of i) (cable_seats i) p.seat.station (stamps t) added)
block_is i t p added there so =
    let r = p.seat.station in
    let entries = ap (all_entries (places_of i) (cable_seats i) r (stamps t)) so.outputs
    ∙ entries_are i p (stamps t) so.front so.made (fate_entries i p (stamps t) so.front so.fate) so.answered in
    subst (λ es. Block i t (Took p.frame.stamp r ∷ es)) (sym entries)
    (Takes p (legs i r so.made) there (legs_made i r so.made so.answered.leaves) (legs_here i r so.made) so.answered.answers)

-- What a router puts out for a pair that it takes, and that it still holds the image's tables.
pub router_outputs : (i : Internet) (p : Pair) (n : ℕ) (old new : Holding) (added : List Output) → (ok : Passes i) → IsBounded i
    → Arrives i ok p → HoldsRouter i p.seat.station old → Hears old (heard_by p) added new → AreLawful n added
    → TakesSo i p added × HoldsRouter i p.seat.station new
router_outputs i p n old new added ok bounded a holds hears lawful =
    let x = inside p.frame.bytes a.framed a.fine.is_body in
    let c : Course = the_course i ok p old holds a x in
    let both : (added, new) ≡ followed old c x.d =
    hears ∙ (ap (λ k. heard_kind k old (heard_by p)) a.fine.kind ∙ ap (heard_datagram old (heard_by p)) x.read_is) in
    let outputs : added ≡ fate c.step x.d ++ (handled old c.ending x.d).0 = ap (λ (y : List Output × Holding). y.0) both in
    let good = each_front (IsGood n) (fate c.step x.d) (handled old c.ending x.d).0
    (subst (Each (IsGood n)) outputs (each_of (IsGood n) added lawful.each)) in
    let o = course_comes i ok p old holds a x in (
      record {
        front = fate c.step x.d;
        made = (handled old c.ending x.d).0;
        outputs = outputs;
        fate = o.fate_is;
        answered = ending_answer i ok bounded p old holds a x n c.ending o.ends o.on good;
      },
      subst (HoldsRouter i p.seat.station) (sym (ap (λ (y : List Output × Holding). y.1) both))
          (record { router = holds.router; known = holds.known; ports = holds.ports; routes = holds.routes; zones = holds.zones }),
    )

pub router_takes : (i : Internet) (t : List Entry) (p : Pair) (n : ℕ) (old new : Holding) (added : List Output)
    → Passes i → IsBounded i → IsLegal i t → Contains (pending (cable_seats i) t) p
    → HoldsRouter i p.seat.station old → Hears old (heard_by p) added new → AreLawful n added
    → Block i t (Took p.frame.stamp p.seat.station
    ∷ all_entries (places_of i) (cable_seats i) p.seat.station (stamps t) added)
    × HoldsRouter i p.seat.station new
router_takes i t p n old new added ok bounded legal there holds hears lawful =
    let w = router_outputs i p n old new added ok bounded (arrives i ok t p legal there) holds hears lawful in
    (block_is i t p added there w.0, w.1)
