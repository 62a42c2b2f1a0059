-- Nodes may send the datagrams that events make them send.
use Rattle.std.proofs.Common.{◌≡◌, ◌≢◌, ℕ, ◌+◌, true, false, ◌&&◌, ◌==◌, cond, inl, inr, List, Some, None, Option}
use Rattle.std.proofs.Common.{length, refl, sym, ap, ◌∙◌, subst, arith}
use Rattle.std.proofs.Common.{IsTrue, Result, Ok, Err, is_some, nat_lt, slice_get, eqb-true, eq-eqb}
use Rattle.std.proofs.lemmas.Bool.{and_from, and_parts, eqb-false, le-ltb}
use Rattle.at_base.specs.Spelling.{Spells}
use Rattle.at_base.specs.declared.address.Addr.{Addr}
use Rattle.at_base.specs.declared.error.Error.{Error}
use Rattle.at_base.specs.declared.error.Error.TheVariants.{NoRouter, NoSuch, TooLong}
use Rattle.at_base.specs.declared.error.What.TheVariants as what
use Rattle.audit.proofs.Finding.{any_from}
use Rattle.audit.proofs.NodesServed.{nodes_served}
use Rattle.audit.proofs.SeatUnique.{addressed}
use Rattle.audit.proofs.WalkFacts.{between_is, owner_is, some_of}
use Rattle.audit.proofs.WalkLists.{find_at}
use Rattle.audit.proofs.WalkSteps.{cable_good}
use Rattle.audit.specs.Routing.{owner}
use Rattle.audit.specs.Rules.{Passes}
use Rattle.table_image.specs.Seats.{Seat as PlaceOf, seats}
use Rattle.at_base.specs.Address.{same_address}
use Rattle.ddp.proofs.Shape.{value_laid}
use Rattle.ddp.specs.Datagram.{datagram, datagram_of}
use Rattle.ddp.specs.declared.header.Header.{Header}
use Rattle.frozen.specs.Orders.{IsFair, ask_order, asked_at, asking_for, asked_of, next_for, node_at, order_for}
use Rattle.frozen.specs.Orders.{own_router, router_for, send_order, sent_at, sent_by, to_station}
use Rattle.frozen.specs.declared.order.Order.{Order}
use Rattle.legal_stations.proofs.Making.{IsSent, is_sent}
use Rattle.legal_stations.proofs.NodeSeats.{node_seat, seat_of_node}
use Rattle.legal_runs.proofs.Legs.{same_address_is}
use Rattle.legal_runs.specs.Answers.{ByRouter, OnCable}
use Rattle.legal_runs.specs.Stations.{is_on, is_router}
use Rattle.station.specs.Lawful.{are_bytes}
use Rattle.station.specs.declared.output.Next.{Next}
use Rattle.station.specs.declared.output.Next.TheVariants as next
use Rattle.table_image.specs.Internet.{Internet}
use Rattle.table_image.specs.declared.node.Node.{Node}

-- A datagram of a header and data, after it was written.
pub sent_whole : (h : Header) (payload bytes : List ℕ) → Spells datagram bytes (datagram_of h payload) → IsTrue (are_bytes bytes)
    → IsSent h payload
sent_whole h payload bytes s each =
    let v = value_laid (datagram_of h payload) s.0 in
    is_sent h payload (record {
      target_net = v.target_net;
      source_net = v.source_net;
      target_node = v.target_node;
      source_node = v.source_node;
      target_socket = v.target_socket;
      source_socket = v.source_socket;
      kind = v.kind;
    }) (record { value = datagram_of h payload; spelled = (s.0, refl); each = subst (λ b. IsTrue (are_bytes b)) s.1 each })

-- If two Ok results are equal, so are their values.
ok_is : {A : Type 0} (a b : A) → ◌≡◌ {A = Result A Error} (Ok a) (Ok b) → a ≡ b
ok_is a b e = ap (λ r. of a r) e
  where
    of : {A : Type 0} → A → Result A Error → A
    of d (Ok x) = x
    of d (Err e) = d

err_ok : {A : Type 0} (e : Error) (a : A) → ◌≡◌ {A = Result A Error} (Err e) (Ok a) → ⊥
err_ok e a h = cc

-- The node's own router is the one that it has.
own_is : (o : Option Addr) (a : Addr) → own_router o ≡ Ok a → o ≡ Some a
own_is None a h = absurd (err_ok NoRouter a h)
own_is (Some b) a h = ap Some (ok_is b a h)

module _ (i : Internet) (ok : Passes i) where
  -- A router's address on a cable has a network other than 0.
  owner_net : (c : ℕ) (a : Addr) (r : ℕ) → owner i c a ≡ Some r → a.net ≢ 0
  owner_net c a r own none =
      let w = owner_is i c a r own in
      let s = w.0.0 in
      let f = find_at (λ (x : PlaceOf). x.cable == c && same_address x.address a) (seats i) s w.0.1 in
      let parts = and_parts (s.cable == c) (same_address s.address a) f.2 in
      let d = addressed i ok f.0 s f.1 in
      let good = cable_good i ok s.cable d.cable d.known in
      let low = good.low in
      let in_range = (between_is d.cable.start d.cable.end s.address.net d.holds).0 in
      let same : s.address.net ≡ a.net = ap (λ (x : Addr). x.net) (same_address_is s.address a parts.1) in
      omega (arith, low, in_range, same, none)

  module _ (k : ℕ) (node : Node) (known : slice_get i.nodes k ≡ Some node) where
    -- The router that a node sends through is on its cable.
    routed : (via : Option Addr) (a : Addr) → router_for i node via ≡ Ok a → (r : ℕ) × (owner i node.cable a ≡ Some r)
    routed None a h = (nodes_served i k node ok known).router a (own_is node.router a h)
    routed (Some via) a h =
        (elim (is_some (owner i node.cable via)) as (λ b. is_some (owner i node.cable via) ≡ b
        → ◌≡◌ {A = Result Addr Error} (cond b (Ok via) (Err (NoSuch what.Router))) (Ok a)
        → (r : ℕ) × (owner i node.cable a ≡ Some r)) [
          | true ↦ λ e h.
              let r = some_of (owner i node.cable via) e in
              (r.0, ap (owner i node.cable) (sym (ok_is via a h)) ∙ r.1)
          | false ↦ λ e h. absurd (err_ok (NoSuch what.Router) a h)
        ]) refl h

    abbrev station : ℕ
    station = length i.routers + k

    seated : is_on i station node.cable ≡ true
    seated =
        let w = seat_of_node i ok k station refl node known in
        any_from (λ (x : PlaceOf). x.station == station && x.cable == node.cable) (seats i) w.0 (node_seat station node) w.1
        (and_from _ _ (eq-eqb station station refl) (eq-eqb node.cable node.cable refl))

    by_node : is_router i station ≡ false
    by_node = le-ltb station (length i.routers) (omega arith)

    -- A node may send to a router that it sends through.
    fair_by : (header : Header) (a : Addr) (r : ℕ) → owner i node.cable a ≡ Some r → header.target.net ≢ 0
        → IsFair i (record { station = station; cable = node.cable; next = next.Station a; header = header })
    fair_by header a r own some = record {
      by_node = by_node;
      seated = seated;
      goes = λ l on to is. ByRouter a r to (ap (λ c. owner i c a) on ∙ own) (λ z. some (ap (λ (x : Addr). x.net) (sym is) ∙ z));
      handed = inr (a, r, refl, own);
    }

    -- A node may send to all stations of its cable.
    fair_here : (header : Header) → header.target.net ≡ 0 → header.target.node ≡ 255
        → IsFair i (record { station = station; cable = node.cable; next = next.All; header = header })
    fair_here header none all = record {
      by_node = by_node;
      seated = seated;
      goes = λ l on to is. OnCable to (ap (λ (x : Addr). x.net) is ∙ none) (ap (λ (x : Addr). x.node) is ∙ all);
      handed = inl none;
    }

    -- The order for a next receiver.
    order_fair : (header : Header) (len : ℕ) (o : Order) (to : Next)
        → IsFair i (record { station = station; cable = node.cable; next = to; header = header })
        → order_for station node header len (Ok to) ≡ Ok o → IsFair i o
    order_fair header len o to fair h =
        (elim (nat_lt 586 len) as (λ b. ◌≡◌ {A = Result Order Error} (cond b (Err TooLong)
        (Ok (record { station = station; cable = node.cable; next = to; header = header }))) (Ok o) → IsFair i o) [
          | true ↦ λ h. absurd (err_ok TooLong o h)
          | false ↦ λ h. subst (IsFair i) (ok_is _ o h) fair
        ]) h

    -- The order to a router, if there is one.
    by_router : (header : Header) (len : ℕ) (o : Order) (via : Option Addr) → header.target.net ≢ 0
        → (r : Result Addr Error) → router_for i node via ≡ r → order_for station node header len (to_station r) ≡ Ok o → IsFair i o
    by_router header len o via some (Err e) is h = absurd (err_ok e o h)
    by_router header len o via some (Ok a) is h =
        let w = routed via a is in
        order_fair header len o (next.Station a) (fair_by header a w.0 w.1 some) h

    -- A node may send the datagram of a Send event.
    sends_fair : (header : Header) (len : ℕ) (o : Order) (via : Option Addr)
        → order_for station node header len (next_for i node via header.target) ≡ Ok o → IsFair i o
    sends_fair header len o via h =
        (elim (header.target.net == 0) as (λ b. (header.target.net == 0) ≡ b → order_for station node header len (cond b
        (cond (header.target.node == 255) (Ok next.All) (Err (NoSuch what.Station))) (to_station (router_for i node via))) ≡ Ok o
        → IsFair i o) [
          | true ↦ λ none h. (elim (header.target.node == 255) as
              (λ b. (header.target.node == 255) ≡ b → order_for station node header len (cond b
              (Ok next.All) (Err (NoSuch what.Station))) ≡ Ok o → IsFair i o) [
                | true ↦ λ all h. order_fair header len o next.All
                    (fair_here header (eqb-true _ _ none) (eqb-true _ _ all)) h
                | false ↦ λ other h. absurd (err_ok (NoSuch what.Station) o h)
              ]) refl h
          | false ↦ λ some h. by_router header len o via (λ z. eqb-false _ _ some z) (router_for i node via) refl h
        ]) refl h

    -- A node may send the datagram of a Request event.
    asks_fair : (o : Order) (via : Option Addr) (r : Result Addr Error) → router_for i node via ≡ r → asking_for station node r ≡ Ok o
        → IsFair i o
    asks_fair o via (Err e) is h = absurd (err_ok e o h)
    asks_fair o via (Ok a) is h =
        let w = routed via a is in
        subst (IsFair i) (ok_is _ o h) (fair_by _ a w.0 w.1 (owner_net node.cable a w.0 w.1))

  -- An order to send may be carried out.
  pub send_fair : (a : Addr) (via : Option Addr) (header : Header) (len : ℕ) (o : Order) → send_order i a via header len ≡ Ok o → IsFair i o
  send_fair a via header len o h = by (node_at i.nodes a) h
    where
      at : (k : ℕ) (n : Option Node) → slice_get i.nodes k ≡ n → sent_at i k n via header len ≡ Ok o → IsFair i o
      at k None is h = absurd (err_ok (NoSuch what.Node) o h)
      at k (Some node) is h = sends_fair k node is (record header { source = node.address }) len o via h

      by : (n : Option ℕ) → sent_by i n via header len ≡ Ok o → IsFair i o
      by None h = absurd (err_ok (NoSuch what.Node) o h)
      by (Some k) h = at k (slice_get i.nodes k) refl h

  -- An order to ask may be carried out.
  pub ask_fair : (a : Addr) (via : Option Addr) (o : Order) → ask_order i a via ≡ Ok o → IsFair i o
  ask_fair a via o h = by (node_at i.nodes a) h
    where
      at : (k : ℕ) (n : Option Node) → slice_get i.nodes k ≡ n → asked_at i k n via ≡ Ok o → IsFair i o
      at k None is h = absurd (err_ok (NoSuch what.Node) o h)
      at k (Some node) is h = asks_fair k node is o via (router_for i node via) refl h

      by : (n : Option ℕ) → asked_of i n via ≡ Ok o → IsFair i o
      by None h = absurd (err_ok (NoSuch what.Node) o h)
      by (Some k) h = at k (slice_get i.nodes k) refl h
