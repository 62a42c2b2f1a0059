-- What a station puts out for an AARP frame is the response that a transcript with resolution has.
use Rattle.std.proofs.Common.{◌≡◌, ◌≤◌, ℕ, ◌+◌, Bool, true, false, ◌&&◌, ◌==◌, List, [], ◌∷◌, Option, Some, None}
use Rattle.std.proofs.Common.{refl, sym, ap, ◌∙◌, subst, arith, eqb-true, eq-eqb, filter, slice_get, length, Contains}
use Rattle.std.proofs.lemmas.Bool.{and_parts}
use Rattle.at_base.specs.Address.{same_address}
use Rattle.at_base.specs.Spelling.{bytes_of}
use Rattle.aarp.specs.Choosing.{Choice}
use Rattle.aarp.specs.Packets.{packet, written}
use Rattle.aarp.specs.declared.packet.Function.{Function}
use Rattle.aarp.specs.declared.packet.Function.TheVariants.{Probe, Request, Response}
use Rattle.aarp.specs.declared.packet.Packet.{Packet}
use Rattle.audit.proofs.SeatPlaces.{AtNode, AtPort, sits}
use Rattle.audit.proofs.SeatUnique.{unique}
use Rattle.audit.proofs.WalkLists.{at_one, at_within}
use Rattle.audit.specs.Rules.{Passes}
use Rattle.table_image.specs.Internet.{Internet}
use Rattle.table_image.specs.Seats.{Seat as PlaceOf, seats}
use Rattle.table_image.specs.declared.node.Node.{Node}
use Rattle.station.specs.Resolution.{answer_by, packet_at, wired}
use Rattle.station.specs.declared.heard.Kind.TheVariants.{Aarp}
use Rattle.station.specs.declared.output.Output.{Output}
use Rattle.cable_model.specs.Outcomes.{cable_of, framed, heard_by}
use Rattle.cable_model.specs.Pending.{Pair, pairs, pending}
use Rattle.cable_model.specs.Transcript.{Entry, count, next_stamp}
use Rattle.cable_model.proofs.Counting.{At, count_one, each_at, filter_one, map_at}
use Rattle.image_stations.specs.Holders.{HoldsNode, HoldsRouter, choice_on}
use Rattle.legal_runs.specs.Stations.{cable_seat, cable_seats}
use Rattle.legal_runs.proofs.Requested.{HasPlace, placed}
use Rattle.resolved_runs.proofs.Standing.{pending_in}
use Rattle.resolved_runs.proofs.TakenThere.{pair_cable}
use Rattle.resolved_runs.specs.Resolved.{answer_entries, answered, response_by, station_seats}
use Rattle.end_node.specs.Answers as node_answers
use Rattle.end_node.specs.Holding.{NodeHolding}
use Rattle.router.specs.Answers as router_answers
use Rattle.router.specs.Holding.{Holding}
use Rattle.router.specs.Resolution.{resolved}
use Rattle.legal_stations.specs.Responding.{Responds, Silent, Tells, response, response_of, response_to}
use Rattle.legal_stations.proofs.NodeSeats.{node_cable}
use Rattle.legal_stations.proofs.Ports.{cable_is, port_of}

-- The seat of the internet that took the frame, which is on its cable.
pub record TakenAt (i : Internet) (p : Pair) : Type 0 where
  pub place : ℕ
  pub seat : PlaceOf
  pub at : At (seats i) place seat
  pub is : p.seat ≡ cable_seat i seat
  pub on : seat.cable ≡ p.frame.cable

-- What a node puts out for a packet, as a router with its port would.
node_out : (h : NodeHolding) (o : Option Packet) → (node_answers.heard_packet h o).0 ≡ resolved (h.port ∷ []) 0 o
node_out h None = refl
node_out h (Some sent) = refl

-- The seat is that of a node.
record IsOfNode (s : PlaceOf) (n : Node) : Type 0 where
  cable : s.cable ≡ n.cable
  address : s.address ≡ n.address
  hardware : s.hardware ≡ n.hardware

node_place : (i : Internet) (k : ℕ) (s : PlaceOf) (m : ℕ) (n : Node) → At (seats i) m s → s.station ≡ length i.routers + k
    → At i.nodes k n → IsOfNode s n
node_place i k s m n at mine known =
    elim (sits i m s at) as (λ _. IsOfNode s n) [
      | AtPort x ↦
          let station = x.station in
          let within = at_within i.routers x.r x.router x.known in
          absurd (omega (arith, station, mine, within))
      | AtNode j there x ↦
          let station = x.station in
          let one : j ≡ k = omega (arith, station, mine) in
          let same : x.node ≡ n = at_one i.nodes k x.node n (subst (λ m. At i.nodes m x.node) one x.known) known in
          record {
            cable = x.cable ∙ ap (λ (y : Node). y.cable) same;
            address = x.address ∙ ap (λ (y : Node). y.address) same;
            hardware = x.hardware ∙ ap (λ (y : Node). y.hardware) same;
          }
    ]

module _ (i : Internet) (ok : Passes i) (p : Pair) (w : TakenAt i p) where
  abbrev mine : PlaceOf → Bool
  mine s = s.station == p.seat.station && s.cable == p.frame.cable

  -- The station has one seat on the frame's cable.
  one_here : station_seats i p.seat.station p.frame.cable ≡ w.seat ∷ []
  one_here = filter_one mine (seats i) w.place w.seat few w.at here
    where
      few : count mine (seats i) ≤ 1
      few = count_one mine (seats i) (λ j k s t ej ek ps pt.
          let a = and_parts (s.station == p.seat.station) (s.cable == p.frame.cable) ps in
          let b = and_parts (t.station == p.seat.station) (t.cable == p.frame.cable) pt in
          (unique i ok).by_station j k s t ej ek (eqb-true _ _ a.0 ∙ sym (eqb-true _ _ b.0))
          (eqb-true _ _ a.1 ∙ sym (eqb-true _ _ b.1)))

      here : mine w.seat ≡ true
      here = ap (λ b. b && w.seat.cable == p.frame.cable) (eq-eqb _ _ (sym (ap (λ s. s.station) w.is))) ∙ eq-eqb _ _ w.on

  -- The response of the seat, if the packet is for its address.
  abbrev told : List Entry → Packet → Bool → List Entry
  told t sent true =
      framed (record { stamp = next_stamp t; cable = p.frame.cable; station = p.seat.station }) sent.source_hw Aarp
      (bytes_of packet (written (response_by w.seat sent))) ∷ []
  told t sent false = []

  answered_is : (t : List Entry) (sent : Packet) (b : Bool) → same_address sent.target w.seat.address ≡ b
      → answered i t p.seat.station p.frame.cable sent ≡ told t sent b
  answered_is t sent b e =
      ap (λ ss. answer_entries t p.frame.cable sent (filter (λ (s : PlaceOf). same_address sent.target s.address) ss)) one_here
      ∙ by b e
    where
      by : (b : Bool) → same_address sent.target w.seat.address ≡ b
          → answer_entries t p.frame.cable sent (filter (λ (s : PlaceOf). same_address sent.target s.address) (w.seat ∷ []))
          ≡ told t sent b
      by true e =
          rw e (ap (λ s. framed (record { stamp = next_stamp t; cable = p.frame.cable; station = s }) sent.source_hw Aarp
          (bytes_of packet (written (response_by w.seat sent))) ∷ []) (sym (ap (λ s. s.station) w.is)))
      by false e = rw e refl

  -- A port that holds the seat's address responds so.
  module _ (q : ℕ) (cable : cable_of (cable_seats i) p.seat.station q ≡ p.frame.cable) (c : Choice)
      (settled : c ≡ choice_on i w.seat.cable w.seat.address w.seat.hardware) where
    packet_responds : (sent : Packet) → packet_at p.frame.bytes ≡ Some sent → Responds i p (wired q (answer_by sent (Some c)))
    packet_responds sent read =
        subst (λ k. Responds i p (wired q (answer_by sent (Some k)))) (sym settled)
        (by sent.function (same_address sent.target w.seat.address) refl refl)
      where
        first : (t : List Entry) (f : Function) → sent.function ≡ f → response i t p ≡ response_to i t p sent f
        first t f e = ap (response_of i t p) read ∙ ap (response_to i t p sent) e

        by : (f : Function) (b : Bool) → sent.function ≡ f → same_address sent.target w.seat.address ≡ b
            → Responds i p (wired q (answer_by sent (Some (choice_on i w.seat.cable w.seat.address w.seat.hardware))))
        by Request true e same = rw (e, same) (Tells q sent.source_hw (bytes_of packet (written (response_by w.seat sent))) cable
            (λ t. first t Request e ∙ answered_is t sent true same))
        by Request false e same = rw (e, same) (Silent (λ t. first t Request e ∙ answered_is t sent false same))
        by Probe true e same = rw (e, same) (Tells q sent.source_hw (bytes_of packet (written (response_by w.seat sent))) cable
            (λ t. first t Probe e ∙ answered_is t sent true same))
        by Probe false e same = rw (e, same) (Silent (λ t. first t Probe e ∙ answered_is t sent false same))
        by Response b e same = rw e (Silent (λ t. first t Response e))

    pub port_responds : (o : Option Packet) → packet_at p.frame.bytes ≡ o → (ports : List Choice) → slice_get ports q ≡ Some c
        → Responds i p (resolved ports q o)
    port_responds None read ports at = Silent (λ t. ap (response_of i t p) read)
    port_responds (Some sent) read ports at =
        subst (λ o. Responds i p (wired q (answer_by sent o))) (sym at) (packet_responds sent read)

  -- A router that holds the image's tables responds so.
  pub router_responds : (old new : Holding) (added : List Output) → HoldsRouter i p.seat.station old
      → router_answers.Hears old (heard_by p) added new → p.frame.kind ≡ Aarp → Responds i p added
  router_responds old new added holds hears kind =
      let s = ap (λ s. s.station) w.is in
      let port = port_of i ok p.seat.station holds.router holds.known w.place w.seat w.at (sym s) in
      let q : p.seat.port ≡ port.place = ap (λ s. s.port) w.is ∙ port.number in
      let at : slice_get old.ports port.place ≡ Some (choice_on i port.port.cable port.port.address port.port.hardware) =
      ap (λ ports. slice_get ports port.place) holds.ports
      ∙ map_at (λ port. choice_on i port.cable port.address port.hardware) holds.router.ports port.place port.port port.at in
      let cable = cable_is i ok p.seat.station holds.router holds.known port.place port.port port.at ∙ (sym port.cable ∙ w.on) in
      let outputs : added ≡ resolved old.ports p.seat.port (packet_at p.frame.bytes) =
      ap (λ (y : List Output × Holding). y.0) (hears ∙ ap (λ k. router_answers.heard_kind k old (heard_by p)) kind) in
      subst (Responds i p) (sym (outputs ∙ ap (λ k. resolved old.ports k (packet_at p.frame.bytes)) q))
      (port_responds port.place cable (choice_on i port.port.cable port.port.address port.port.hardware)
      (ap (λ c. choice_on i c port.port.address port.port.hardware) (sym port.cable)
      ∙ (ap (λ a. choice_on i w.seat.cable a port.port.hardware) (sym port.address)
      ∙ ap (choice_on i w.seat.cable w.seat.address) (sym port.hardware)))
      (packet_at p.frame.bytes) refl old.ports at)

  -- A node that holds the image's contents responds so.
  pub node_responds : (k : ℕ) (old new : NodeHolding) (added : List Output) → p.seat.station ≡ length i.routers + k
      → HoldsNode i k old → node_answers.Hears old (heard_by p) added new → p.frame.kind ≡ Aarp → Responds i p added
  node_responds k old new added far holds hears kind =
      let n = holds.node in
      let node = node_place i k w.seat w.place n w.at (sym (ap (λ s. s.station) w.is) ∙ far) holds.known in
      let cable = node_cable i ok k p.seat.station far n holds.known ∙ (sym node.cable ∙ w.on) in
      let outputs : added ≡ (node_answers.heard_packet old (packet_at p.frame.bytes)).0 =
      ap (λ (y : List Output × NodeHolding). y.0) (hears.0 ∙ ap (λ k. node_answers.heard_kind k old (heard_by p)) kind) in
      subst (Responds i p) (sym (outputs ∙ node_out old (packet_at p.frame.bytes)))
      (port_responds 0 cable old.port
      (holds.port ∙ (ap (λ c. choice_on i c n.address n.hardware) (sym node.cable)
      ∙ (ap (λ a. choice_on i w.seat.cable a n.hardware) (sym node.address)
      ∙ ap (choice_on i w.seat.cable w.seat.address) (sym node.hardware))))
      (packet_at p.frame.bytes) refl (old.port ∷ []) refl)

-- The seat of a pending pair.
pub taken_at : (i : Internet) (t : List Entry) (p : Pair) → Contains (pending (cable_seats i) t) p → TakenAt i p
taken_at i t p there =
    let h = (pending_in i (cable_seats i) t p there).0 in
    let place = each_at (HasPlace i) (pairs (cable_seats i) t) h.0 p h.1 (placed i t) in
    record {
      place = place.0;
      seat = place.1;
      at = place.2;
      is = place.3;
      on = sym (ap (λ s. s.cable) place.3) ∙ pair_cable i t p h;
    }
