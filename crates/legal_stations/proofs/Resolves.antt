-- A station takes or sends a datagram over a resolver that knows what the station knows: a block of a transcript with
-- resolution.
use Rattle.std.proofs.Common.{◌≡◌, ℕ, ◌+◌, List, [], ◌∷◌, ◌++◌, ◌∙◌, length, ap, arith, refl, sym, subst, append-nil, append_assoc}
use Rattle.std.proofs.Common.{Option, Some, None}
use Rattle.std.specs.Prelude.{Contains}
use Rattle.at_base.specs.declared.address.Addr.{Addr}
use Rattle.audit.specs.Rules.{Passes}
use Rattle.table_image.specs.Bounds.{IsBounded}
use Rattle.table_image.specs.Internet.{Internet}
use Rattle.station.specs.Lawful.{AreLawful}
use Rattle.aarp.specs.declared.packet.Function.{Function}
use Rattle.aarp.specs.declared.packet.Function.TheVariants.{Probe, Request, Response}
use Rattle.aarp.specs.declared.packet.Packet.{Packet}
use Rattle.station.specs.Resolution.{if_response, packet_at, response_of}
use Rattle.station.specs.declared.heard.Kind.TheVariants.{Aarp, Ddp}
use Rattle.station.specs.declared.output.Output.{Output}
use Rattle.cable_model.specs.declared.resolve.HeldBy.{HeldBy}
use Rattle.cable_model.specs.Logs.{Adds, Cabling, transcript}
use Rattle.cable_model.specs.Outcomes.{Places, framed, heard_by, sender_by, sent_entries}
use Rattle.cable_model.specs.Outgoing.{GoOut, IsSent}
use Rattle.cable_model.specs.Pending.{Pair, pending}
use Rattle.cable_model.specs.Transcript.{Entry, Sent, next_stamp}
use Rattle.end_node.specs.Answers as node_answers
use Rattle.end_node.specs.Holding.{NodeHolding}
use Rattle.image_stations.specs.Holders.{HoldsNode, HoldsRouter}
use Rattle.legal_runs.specs.Answers.{IsMade, IsOwn}
use Rattle.legal_runs.specs.Legs.{Leg}
use Rattle.legal_runs.specs.Stations.{cable_seats}
use Rattle.resolved_runs.specs.Fitting.{SeatsFit}
use Rattle.resolved_runs.specs.Resolved.{resolved_leg, resolved_said, resolving_by, resolving_of}
use Rattle.resolved_runs.specs.ResolvedRuns.{IsLegalResolved, ResolvedBlock, Resolves, Sends, Takes, taking}
use Rattle.router.specs.Answers.{Hears}
use Rattle.router.specs.Holding.{Holding}
use Rattle.legal_stations.specs.Made.{legs}
use Rattle.legal_stations.specs.Resolver.{IsResolver}
use Rattle.legal_stations.specs.Responding.{Responds, Silent, Tells, response, response_to}
use Rattle.legal_stations.specs.Responding.{response_of as responding_of}
use Rattle.legal_stations.proofs.Arrivals.{arrives_resolved}
use Rattle.legal_stations.proofs.Leaving.{legs_here, legs_made}
use Rattle.legal_stations.proofs.NodeTakes.{node_outputs}
use Rattle.legal_stations.proofs.Resolver.{fate_goes, leg_over, one_goes, sent_goes}
use Rattle.legal_stations.proofs.RouterTakes.{TakesSo, router_outputs}

module _ {X : Type 0} (places : X → Places) (Holds : X → ℕ → Addr → ℕ → HeldBy → X → Type 0) (Knows : X → List Entry → Type 0)
    (i : Internet) (t : List Entry) (p : Pair) (added : List Output) (x y : X) (es : List Entry) (ks : List (List ℕ)) where
  -- The block, by what the station puts out.
  pub block_resolves : Contains (pending (cable_seats i) t) p → p.frame.kind ≡ Ddp → TakesSo i p added
      → IsResolver places Holds i p.seat.station Knows → Knows x (t ++ taking p ∷ [])
      → GoOut places Holds (cable_seats i) p.seat.station (t ++ taking p ∷ []) added x es ks y
      → ResolvedBlock i t (taking p ∷ es) × Knows y (t ++ taking p ∷ es)
  block_resolves there kind so resolver knows out =
      let s = p.seat.station in
      let out' = subst (λ os. GoOut places Holds (cable_seats i) s (t ++ taking p ∷ []) os x es ks y) so.outputs out in
      let w = fate_goes places Holds i s Knows resolver p (t ++ taking p ∷ []) so.front so.made x y es ks so.fate
      so.answered.leaves knows out' in (
        subst (λ e. ResolvedBlock i t (taking p ∷ e)) (sym w.0)
            (Takes p (legs i s so.made) there kind (legs_made i s so.made so.answered.leaves) (legs_here i s so.made)
            so.answered.answers),
        subst (Knows y) (append_assoc t (taking p ∷ []) es) w.1,
      )

  pub router_resolves : (n : ℕ) (old new : Holding) → Passes i → IsBounded i → SeatsFit i → IsLegalResolved i t
      → Contains (pending (cable_seats i) t) p → p.frame.kind ≡ Ddp
      → HoldsRouter i p.seat.station old → Hears old (heard_by p) added new → AreLawful n added
      → IsResolver places Holds i p.seat.station Knows → Knows x (t ++ taking p ∷ [])
      → GoOut places Holds (cable_seats i) p.seat.station (t ++ taking p ∷ []) added x es ks y
      → ResolvedBlock i t (taking p ∷ es) × Knows y (t ++ taking p ∷ es) × HoldsRouter i p.seat.station new
  router_resolves n old new ok bounded fit legal there kind holds hears lawful resolver knows out =
      let w = router_outputs i p n old new added ok bounded (arrives_resolved i ok t p fit legal there kind) holds hears lawful in
      let b = block_resolves there kind w.0 resolver knows out in
      (b.0, b.1, w.1)

  pub node_resolves : (k n : ℕ) (old new : NodeHolding) → Passes i → SeatsFit i → IsLegalResolved i t
      → Contains (pending (cable_seats i) t) p → p.frame.kind ≡ Ddp → p.seat.station ≡ length i.routers + k
      → HoldsNode i k old → node_answers.Hears old (heard_by p) added new → AreLawful n added
      → IsResolver places Holds i p.seat.station Knows → Knows x (t ++ taking p ∷ [])
      → GoOut places Holds (cable_seats i) p.seat.station (t ++ taking p ∷ []) added x es ks y
      → ResolvedBlock i t (taking p ∷ es) × Knows y (t ++ taking p ∷ es) × HoldsNode i k new
  node_resolves k n old new ok fit legal there kind far holds hears lawful resolver knows out =
      let w = node_outputs i p k n old new added ok (arrives_resolved i ok t p fit legal there kind) far holds hears lawful in
      let b = block_resolves there kind w.0 resolver knows out in
      (b.0, b.1, w.1)

-- A node sends a datagram on its own initiative over a resolver that knows what the node knows: a block of a transcript with
-- resolution.
pub sending_resolves : {X : Type 0} (places : X → Places) (Holds : X → ℕ → Addr → ℕ → HeldBy → X → Type 0)
    (Knows : X → List Entry → Type 0) (i : Internet) (old new : Cabling) (l : Leg) (x y : X)
    → IsMade i l → IsOwn i l → IsResolver places Holds i l.station Knows → Knows x (transcript old)
    → IsSent places Holds old new l.cable l.station l.next l.body x y
    → (es : List Entry) × ResolvedBlock i (transcript old) es × Adds old new es × Knows y (transcript old ++ es)
sending_resolves places Holds Knows i old new l x y made own resolver knows sent =
    let t = transcript old in
    let w = sent_goes places Holds i l.station Knows resolver t l.cable l.next l.body x y sent.more sent.asks made.whole knows
    made.seated sent.held in
    let es = sent_entries (places x) old l.cable l.station l.next l.body ++ sent.more in
    let same : leg_over places Holds i l.station Knows resolver l.cable l.next l.body ≡ l =
    ap (λ n. record { station = l.station; cable = l.cable; next = l.next; body = l.body; hops = n }) (sym made.fresh) in
    let is : es ≡ resolved_said i t (l ∷ []) =
    w.0 ∙ (ap (λ m. Sent l.station l.body ∷ resolved_leg i (t ++ Sent l.station l.body ∷ []) m) same
    ∙ ap (λ a. Sent l.station l.body ∷ a) (sym (append-nil (resolved_leg i (t ++ Sent l.station l.body ∷ []) l)))) in
    (es, subst (ResolvedBlock i t) (sym is) (Sends l made own), sent.entries, w.1)

-- ---- AARP frames

-- What isn't a response is followed by the station's response.
resolving_is : (i : Internet) (t : List Entry) (p : Pair) (o : Option Packet) → response_of Aarp o ≡ None
    → resolving_of i t p o ≡ responding_of i t p o
resolving_is i t p None quiet = refl
resolving_is i t p (Some sent) quiet = by sent.function refl
  where
    by : (f : Function) → sent.function ≡ f
        → resolving_by i t p.seat.station p.frame.cable sent sent.function ≡ response_to i t p sent sent.function
    by Request e = rw e refl
    by Probe e = rw e refl
    by Response e = let none = sym (ap (if_response sent) e) ∙ quiet in cc

module _ {X : Type 0} (places : X → Places) (Holds : X → ℕ → Addr → ℕ → HeldBy → X → Type 0) (Knows : X → List Entry → Type 0)
    (i : Internet) (p : Pair) (resolver : IsResolver places Holds i p.seat.station Knows) where
  -- The entries of a response.
  pub response_goes : (t : List Entry) (added : List Output) (x y : X) (es : List Entry) (ks : List (List ℕ)) → Responds i p added
      → Knows x t → GoOut places Holds (cable_seats i) p.seat.station t added x es ks y → (es ≡ response i t p) × Knows y (t ++ es)
  response_goes t added x y es ks (Silent none) k g = (
    g.0 ∙ sym (none t),
    subst (Knows y) (sym (append-nil t) ∙ ap (λ l. t ++ l) (sym g.0)) (subst (λ z. Knows z t) (sym g.2) k),
  )
  response_goes t added x y es ks (Tells q to bytes on is) k g =
      let e = framed (sender_by (cable_seats i) p.seat.station (next_stamp t) q) to Aarp bytes in
      let o = one_goes places Holds i p.seat.station Knows resolver t e x g.4 g.0 g.5.more g.5.asks k (omega arith) g.5.entries
      g.5.held in
      let alone : es ≡ g.0 = g.7 ∙ (ap (λ l. g.0 ++ l) g.6.0 ∙ append-nil g.0) in (
        alone ∙ (o.0 ∙ (ap (λ c. framed (record { stamp = next_stamp t; cable = c; station = p.seat.station }) to Aarp bytes ∷ []) on
            ∙ sym (is t))),
        subst (λ l. Knows y (t ++ l)) (sym alone) (subst (λ z. Knows z (t ++ g.0)) (sym g.6.2) o.1),
      )

  -- A station takes an AARP frame that holds no response: a block of a transcript with resolution.
  pub frame_resolves : (t : List Entry) (added : List Output) (x y : X) (es : List Entry) (ks : List (List ℕ))
      → Contains (pending (cable_seats i) t) p → p.frame.kind ≡ Aarp → response_of Aarp (packet_at p.frame.bytes) ≡ None
      → Responds i p added → Knows x (t ++ taking p ∷ [])
      → GoOut places Holds (cable_seats i) p.seat.station (t ++ taking p ∷ []) added x es ks y
      → ResolvedBlock i t (taking p ∷ es) × Knows y (t ++ taking p ∷ es)
  frame_resolves t added x y es ks there kind quiet responds knows out =
      let u = t ++ taking p ∷ [] in
      let w = response_goes u added x y es ks responds knows out in (
        subst (λ a. ResolvedBlock i t (taking p ∷ a)) (resolving_is i u p (packet_at p.frame.bytes) quiet ∙ sym w.0)
            (Resolves p there kind),
        subst (Knows y) (append_assoc t (taking p ∷ []) es) w.1,
      )
