-- Routers and nodes over live cables.
use Rattle.std.proofs.Common.{◌≡◌, ℕ, ◌+◌, Option, Some, None, length, refl, sym, ap, ◌∙◌, subst}
use Rattle.aarp.specs.declared.packet.Packet.{Packet}
use Rattle.audit.specs.Rules.{Passes}
use Rattle.table_image.specs.Bounds.{IsBounded}
use Rattle.table_image.specs.Internet.{Internet}
use Rattle.station.specs.Resolution.{packet_at, response_of}
use Rattle.station.specs.declared.heard.Kind.{Kind}
use Rattle.station.specs.declared.heard.Kind.TheVariants.{Aarp, Ddp}
use Rattle.cable_model.specs.Outcomes.{heard_by}
use Rattle.cable_model.specs.Pending.{Pair}
use Rattle.end_node.specs.Answers as node_answers
use Rattle.end_node.specs.Holding.{NodeHolding}
use Rattle.image_stations.specs.Holders.{HoldsNode, HoldsRouter}
use Rattle.legal_runs.specs.Answers.{IsMade, IsOwn}
use Rattle.legal_runs.specs.Legs.{Leg}
use Rattle.legal_stations.proofs.Resolves.{frame_resolves, node_resolves, router_resolves, sending_resolves}
use Rattle.legal_stations.proofs.Responding.{node_responds, router_responds, taken_at}
use Rattle.live_cables.specs.Finding.{places_of}
use Rattle.live_cables.specs.Holding.{Holds}
use Rattle.live_cables.specs.Living.{IsSentOver, TakesStill, Wires, happened, knowing}
use Rattle.resolved_runs.specs.Fitting.{SeatsFit}
use Rattle.resolved_runs.specs.ResolvedRuns.{IsLegalResolved}
use Rattle.resolved_runs.proofs.Erased.{erases}
use Rattle.router.specs.Answers as router_answers
use Rattle.router.specs.Holding.{Holding}
use Rattle.legal_cables.specs.Keeping.{AreKept, Resolves, ResolvesTake}
use Rattle.legal_cables.proofs.Resolving.{Knows, resolver}
use Rattle.legal_cables.proofs.Steady.{node_steady, router_steady}
use Rattle.legal_cables.proofs.Taking.{finish, keeps_for, knows, out, pair, silent, telling, there}
use Rattle.legal_cables.proofs.Took.{told_booked}

module _ (i : Internet) (ok : Passes i) (bounded : IsBounded i) (fit : SeatsFit i) (old new : Wires) (stamp station ports : ℕ)
    (legal : IsLegalResolved i (happened old)) (kept : AreKept i old) where
  -- ---- Routers

  module _ (h g : Holding) (holds : HoldsRouter i station h)
      (w : TakesStill stamp station ports (λ x added. router_answers.Hears h x added g) old new) where
    abbrev p : Pair
    p = pair i ok bounded fit old new stamp station ports (λ x added. router_answers.Hears h x added g) legal kept w

    holds_there : HoldsRouter i p.seat.station h
    holds_there = subst (λ s. HoldsRouter i s h) (sym w.1.took.of_station) holds

    back : HoldsRouter i p.seat.station g → HoldsRouter i station g
    back x = subst (λ s. HoldsRouter i s g) w.1.took.of_station x

    pub router_takes : ResolvesTake i old new stamp station × HoldsRouter i station g
    router_takes = by p.frame.kind (response_of p.frame.kind (packet_at p.frame.bytes)) refl refl
      where
        by : (k : Kind) (o : Option Packet) → p.frame.kind ≡ k → response_of p.frame.kind (packet_at p.frame.bytes) ≡ o
            → ResolvesTake i old new stamp station × HoldsRouter i station g
        by Ddp o kind is =
            let none : response_of p.frame.kind (packet_at p.frame.bytes) ≡ None =
            ap (λ k. response_of k (packet_at p.frame.bytes)) kind in
            let b = router_resolves places_of Holds (Knows i p.seat.station) i (happened old) p w.1.took.added (knowing old station)
            w.1.after w.1.took.told w.1.took.bytes ports h g ok bounded fit legal
            (there i ok bounded fit old new stamp station ports _ legal kept w) kind holds_there w.1.took.heard w.1.took.lawful
            (resolver i ok p.seat.station) (knows i ok bounded fit old new stamp station ports _ legal kept w none)
            (out i ok bounded fit old new stamp station ports _ legal kept w) in
            (silent i ok bounded fit old new stamp station ports _ legal kept w none b.0 b.1, back b.2)
        by Aarp None kind none =
            let responds = router_responds i ok p
            (taken_at i (happened old) p (there i ok bounded fit old new stamp station ports _ legal kept w)) h g w.1.took.added
            holds_there w.1.took.heard kind in
            let b = frame_resolves places_of Holds (Knows i p.seat.station) i p (resolver i ok p.seat.station) (happened old)
            w.1.took.added (knowing old station) w.1.after w.1.took.told w.1.took.bytes
            (there i ok bounded fit old new stamp station ports _ legal kept w) kind
            (ap (λ k. response_of k (packet_at p.frame.bytes)) (sym kind) ∙ none) responds
            (knows i ok bounded fit old new stamp station ports _ legal kept w none)
            (out i ok bounded fit old new stamp station ports _ legal kept w) in (
              silent i ok bounded fit old new stamp station ports _ legal kept w none b.0 b.1,
              back (router_steady i p.seat.station h g (heard_by p) w.1.took.added holds_there w.1.took.heard kind),
            )
        by Aarp (Some sent) kind is = (
          telling i ok bounded fit old new stamp station ports _ legal kept w sent is,
          back (router_steady i p.seat.station h g (heard_by p) w.1.took.added holds_there w.1.took.heard kind),
        )

  -- ---- Nodes

  module _ (k : ℕ) (far : station ≡ length i.routers + k) (h g : NodeHolding) (holds : HoldsNode i k h)
      (w : TakesStill stamp station ports (λ x added. node_answers.Hears h x added g) old new) where
    abbrev q : Pair
    q = pair i ok bounded fit old new stamp station ports (λ x added. node_answers.Hears h x added g) legal kept w

    far_there : q.seat.station ≡ length i.routers + k
    far_there = w.1.took.of_station ∙ far

    pub node_takes : ResolvesTake i old new stamp station × HoldsNode i k g
    node_takes = by q.frame.kind (response_of q.frame.kind (packet_at q.frame.bytes)) refl refl
      where
        by : (y : Kind) (o : Option Packet) → q.frame.kind ≡ y → response_of q.frame.kind (packet_at q.frame.bytes) ≡ o
            → ResolvesTake i old new stamp station × HoldsNode i k g
        by Ddp o kind is =
            let none : response_of q.frame.kind (packet_at q.frame.bytes) ≡ None =
            ap (λ y. response_of y (packet_at q.frame.bytes)) kind in
            let b = node_resolves places_of Holds (Knows i q.seat.station) i (happened old) q w.1.took.added (knowing old station)
            w.1.after w.1.took.told w.1.took.bytes k ports h g ok fit legal
            (there i ok bounded fit old new stamp station ports _ legal kept w) kind far_there holds w.1.took.heard w.1.took.lawful
            (resolver i ok q.seat.station) (knows i ok bounded fit old new stamp station ports _ legal kept w none)
            (out i ok bounded fit old new stamp station ports _ legal kept w) in
            (silent i ok bounded fit old new stamp station ports _ legal kept w none b.0 b.1, b.2)
        by Aarp None kind none =
            let responds = node_responds i ok q
            (taken_at i (happened old) q (there i ok bounded fit old new stamp station ports _ legal kept w)) k h g w.1.took.added
            far_there holds w.1.took.heard kind in
            let b = frame_resolves places_of Holds (Knows i q.seat.station) i q (resolver i ok q.seat.station) (happened old)
            w.1.took.added (knowing old station) w.1.after w.1.took.told w.1.took.bytes
            (there i ok bounded fit old new stamp station ports _ legal kept w) kind
            (ap (λ y. response_of y (packet_at q.frame.bytes)) (sym kind) ∙ none) responds
            (knows i ok bounded fit old new stamp station ports _ legal kept w none)
            (out i ok bounded fit old new stamp station ports _ legal kept w) in (
              silent i ok bounded fit old new stamp station ports _ legal kept w none b.0 b.1,
              node_steady i k h g (heard_by q) w.1.took.added holds w.1.took.heard kind,
            )
        by Aarp (Some sent) kind is = (
          telling i ok bounded fit old new stamp station ports _ legal kept w sent is,
          node_steady i k h g (heard_by q) w.1.took.added holds w.1.took.heard kind,
        )

-- ---- Datagrams that nodes send

pub node_sends : (i : Internet) → Passes i → SeatsFit i → (old new : Wires) (l : Leg) → IsLegalResolved i (happened old)
    → AreKept i old → IsMade i l → IsOwn i l → IsSentOver l.station l.cable l.next l.body old new → Resolves i old new
node_sends i ok fit old new l legal kept made own (after, sent, maps, stays) =
    let told = (erases i ok fit (happened old) legal).told in
    let b = sending_resolves places_of Holds (Knows i l.station) i old.cabling new.cabling l (knowing old l.station) after made own
    (resolver i ok l.station) (record {
      station = refl;
      keeps = keeps_for i old 0 l.station (happened old) kept;
      booked = told_booked i (happened old) told;
    }) sent in
    (finish i old new b.0 after kept b.1 b.2 stays maps b.3.keeps).0
