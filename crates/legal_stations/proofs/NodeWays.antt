-- The ways by which a node replies.
use Rattle.std.proofs.Common.{◌≡◌, ℕ, ◌+◌, ◌<◌, Bool, true, false, not, ◌==◌, cond, Option, Some, None, length, refl, sym, ap, ◌∙◌, subst}
use Rattle.std.proofs.Common.{arith}
use Rattle.std.proofs.lemmas.Bool.{and_parts, eqb-false}
use Rattle.aarp.specs.Choosing.{Choice, settled}
use Rattle.at_base.specs.Range.{is_between}
use Rattle.at_base.specs.declared.address.Addr.{Addr}
use Rattle.audit.specs.Places.{on}
use Rattle.audit.specs.Routing.{owner}
use Rattle.audit.specs.Rules.{Passes}
use Rattle.audit.proofs.NodesServed.{nodes_served}
use Rattle.audit.proofs.WalkFacts.{between_is}
use Rattle.audit.proofs.WalkSteps.{cable_good}
use Rattle.ddp.specs.declared.header.Header.{Header}
use Rattle.ddp.proofs.Written.{Fitting}
use Rattle.end_node.specs.Holding.{NodeHolding}
use Rattle.end_node.specs.Ways.{is_near, next_to, reply_way, to_router, way_on}
use Rattle.image_stations.specs.Holders.{HoldsNode, range_of}
use Rattle.legal_runs.specs.Answers.{ByRouter}
use Rattle.legal_runs.specs.Stations.{cable_holds, is_on}
use Rattle.station.specs.Ways.{straight, way_from}
use Rattle.station.specs.declared.output.Next.TheVariants as next
use Rattle.table_image.specs.Internet.{Internet}
use Rattle.legal_stations.proofs.Leaving.{goes_straight}
use Rattle.legal_stations.proofs.NodeSeats.{node_addressed, node_cable, node_on}
use Rattle.legal_stations.proofs.RouterWays.{Replies}

-- All numbers of a header except its source fit their fields.
pub record FitsTo (h : Header) : Type 0 where
  pub net : h.target.net < 65536
  pub node : h.target.node < 256
  pub target_socket : h.target_socket < 256
  pub source_socket : h.source_socket < 256
  pub kind : h.kind < 256

module _ (i : Internet) (ok : Passes i) (k s : ℕ) (far : s
    ≡ length i.routers + k) (h : NodeHolding) (holds : HoldsNode i k h) (header : Header)
    (fits : FitsTo header) where
  abbrev cable : ℕ
  cable = holds.node.cable

  abbrev own : Addr
  own = holds.node.address

  -- The header from the node's address fits.
  from_own : Fitting (record header { source = own })
  from_own =
      let a = node_addressed i ok k s far holds.node holds.known in
      let w = between_is a.cable.start a.cable.end own.net a.holds in
      let most = (cable_good i ok cable a.cable a.known).high in
      let node = a.high in
      record {
        target_net = fits.net;
        source_net = omega (arith, w.1, most);
        target_node = fits.node;
        source_node = omega (arith, node);
        target_socket = fits.target_socket;
        source_socket = fits.source_socket;
        kind = fits.kind;
      }

  its_cable : (c : ℕ) → c ≡ cable → is_on i s c ≡ true
  its_cable c e = ap (is_on i s) e ∙ node_on i ok k s far holds.node holds.known

  -- A network in the range of the node's port.
  near_holds : (n : ℕ) → is_between h.port.range.start h.port.range.end n ≡ cable_holds i cable n
  near_holds n =
      let a = node_addressed i ok k s far holds.node holds.known in
      ap (λ (c : Choice). is_between c.range.start c.range.end n) holds.port
      ∙ (ap (λ o. is_between (range_of o).start (range_of o).end n) a.known
      ∙ sym (ap (λ o. on o (λ c. is_between c.start c.end n)) a.known))

  own_is : settled h.port ≡ Some own
  own_is = ap settled holds.port

  near_goes : is_near h header.target ≡ true → Replies i s header.kind (way_from (settled h.port) 0 (straight header.target) header)
  near_goes e =
      let parts = and_parts (is_between h.port.range.start h.port.range.end header.target.net) (not (header.target.node == 0)) e in
      subst (λ o. Replies i s header.kind (way_from o 0 (straight header.target) header)) (sym own_is) (
        record {
          fits = from_own;
          seated = its_cable _ (node_cable i ok k s far holds.node holds.known);
          goes = λ leg on to for. goes_straight i header.target cable (sym (near_holds header.target.net) ∙ parts.0)
              (some (header.target.node == 0) parts.1) leg (on ∙ node_cable i ok k s far holds.node holds.known) to for;
        },
        refl,
      )
    where
      some : (b : Bool) → not b ≡ true → b ≡ false
      some true e = cc
      some false e = refl

  router_goes : (header.target.net == 0) ≡ false → (o : Option Addr) → h.router ≡ o
      → Replies i s header.kind (way_on h (to_router o) header)
  router_goes some None e = tt
  router_goes some (Some a) e =
      let served = (nodes_served i k holds.node ok holds.known).router a (sym holds.router ∙ e) in
      subst (λ o. Replies i s header.kind (way_from o 0 (next.Station a) header)) (sym own_is) (
        record {
          fits = from_own;
          seated = its_cable _ (node_cable i ok k s far holds.node holds.known);
          goes = λ leg on to for. ByRouter a served.0 to
              (ap (λ c. owner i c a) (on ∙ node_cable i ok k s far holds.node holds.known) ∙ served.1)
              (λ z. eqb-false header.target.net 0 some (sym (ap (λ (x : Addr). x.net) for) ∙ z));
        },
        refl,
      )

  pub reply_goes : Replies i s header.kind (reply_way h header)
  reply_goes = by_net (header.target.net == 0) refl
    where
      by_near : (header.target.net == 0) ≡ false → (b : Bool) → is_near h header.target ≡ b
          → Replies i s header.kind (way_on h (cond b (Some (straight header.target)) (to_router h.router)) header)
      by_near some true e = near_goes e
      by_near some false e = router_goes some h.router refl

      by_net : (b : Bool) → (header.target.net == 0) ≡ b
          → Replies i s header.kind (cond b None (way_on h (next_to h header.target) header))
      by_net true e = tt
      by_net false e = by_near e (is_near h header.target) refl
