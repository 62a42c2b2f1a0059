-- What stations put out in a tick, and what they become, where all rows that aren't direct are Good.
use Rattle.std.proofs.Common.{◌≡◌, ◌⊎◌, inl, inr, ℕ, zero, suc, ◌+◌, ◌%◌, ◌==◌, Bool, true, false, not, List, [], ◌∷◌, ◌++◌}
use Rattle.std.proofs.Common.{Option, Some, None, refl, sym, ap, ◌∙◌, subst, slice_get, map, filter, if◌then◌else◌, arith}
use Rattle.std.specs.Prelude.{option_to_list}
use Rattle.std.specs.List.{list_any, AllByRecursion as Each}
use Rattle.std.proofs.Math.Bool.{and-false}
use Rattle.aarp.specs.Choosing.{Choice, settled as settled_of}
use Rattle.at_base.specs.Range.{same_range}
use Rattle.at_base.specs.Spelling.{bytes_of}
use Rattle.audit.proofs.WalkLists.{At, at_one}
use Rattle.audit.specs.Rules.{Passes}
use Rattle.cable_model.proofs.Counting.{each-append}
use Rattle.cable_model.specs.declared.seat.Seat.{Seat}
use Rattle.lasting.specs.Plain.{IsPlainOutput}
use Rattle.lasting.proofs.Alike.{IsLike, IsNodeAt, IsRouterAt, IsServedOn, IsStationAt, StaysFresh, node_like, router_like}
use Rattle.lasting.proofs.Asking.{asks_nobody}
use Rattle.lasting.proofs.Given.{IsToAll, MayPut}
use Rattle.lasting.proofs.Nodes.{node_ticks}
use Rattle.lasting.proofs.Refreshing.{IsFreshAt}
use Rattle.lasting.proofs.Routers.{one_settled, ticks}
use Rattle.lasting.proofs.Telling.{IsTeller, IsToldOf, telling}
use Rattle.learning.specs.Forgetting.{without_gone}
use Rattle.learning.specs.Queries.{queries_of}
use Rattle.live_node.specs.Living.{LivingNode}
use Rattle.live_node.specs.Ticking.{LiveTicks as NodeTicks}
use Rattle.live_router.specs.Living.{Living}
use Rattle.live_router.specs.Ticking.{LiveTicks as RouterTicks, all_queries, data_by, data_from, data_way, packets_for, phase_after, routes_aged, zones_aged}
use Rattle.rtmp.specs.Data.{RoutingData, routing_data}
use Rattle.rtmp.specs.Routes.{aged, is_direct, is_over}
use Rattle.rtmp.specs.Sending.{packet_numbered}
use Rattle.rtmp.specs.declared.request.Horizon.TheVariants.{Split}
use Rattle.rtmp.specs.declared.row.Row.{Row as RouteRow}
use Rattle.rtmp.specs.declared.state.State.TheVariants.{Good}
use Rattle.settled.proofs.Exchange.{rows_aged}
use Rattle.settled.specs.Exchange.{AreGood, AreMovedRows}
use Rattle.station.specs.Making.{made}
use Rattle.station.specs.Members.{EitherTicks}
use Rattle.station.specs.declared.member.Member.{Member}
use Rattle.station.specs.declared.member.Member.TheVariants.{Router as RouterMember, Node as NodeMember}
use Rattle.station.specs.declared.output.Output.{Output}
use Rattle.station.specs.declared.output.Output.TheVariants as output
use Rattle.table_image.specs.Internet.{Internet}
use Rattle.table_image.specs.declared.port.Port.{Port}
use Rattle.zip_zones.specs.Zones.{Known}

-- all rows of the station, if it is a router, that aren't direct are Good
abbrev pub HasGoodRows : Member Living LivingNode → Type 0
HasGoodRows (RouterMember l) = AreGood l.router.routes
HasGoodRows (NodeMember n) = Unit {0}

-- A router is in the next phase, and each of its rows that is direct or Good after ageing in that phase is so; a node may
-- have anything.
abbrev pub HasTickedTo : Member Living LivingNode → Member Living LivingNode → Type 0
HasTickedTo (RouterMember a) (RouterMember b) =
    (b.phase ≡ phase_after a.phase)
    × ((l : ℕ) → IsFreshAt l (routes_aged (phase_after a.phase) a.router.routes) → IsFreshAt l b.router.routes)
HasTickedTo (RouterMember a) (NodeMember b) = ⊥
HasTickedTo (NodeMember a) b = Unit {0}

pub ticked_then : (a b c : Member Living LivingNode) → HasTickedTo a b → StaysFresh b c → HasTickedTo a c
ticked_then (RouterMember a) (RouterMember b) (RouterMember c) x y = (y.0 ∙ x.0, λ l f. y.1 l (x.1 l f))
ticked_then (RouterMember a) (RouterMember b) (NodeMember c) x y = absurd y
ticked_then (RouterMember a) (NodeMember b) c x y = absurd x
ticked_then (NodeMember a) b c x y = tt

-- the outputs of a router go to all stations of a cable
abbrev pub AreToAll : Member Living LivingNode → List Output → Type 0
AreToAll (RouterMember l) os = Each IsToAll os
AreToAll (NodeMember n) os = Unit {0}

-- ---- Zone lists that aren't removed

not_over : (c : RouteRow) → (is_direct c ≡ false → c.state ≡ Good) → is_over c ≡ false
not_over c good = by (is_direct c) refl
  where
    by : (d : Bool) → is_direct c ≡ d → is_over c ≡ false
    by true e = rw e refl
    by false e = rw (good e) (and-false (not (is_direct c)))

none_over : (rows : List RouteRow) → ((k : ℕ) (c : RouteRow) → At rows k c → is_over c ≡ false) → filter is_over rows ≡ []
none_over [] h = refl
none_over (c ∷ rows) h =
    ap (λ b. if b then c ∷ filter is_over rows else filter is_over rows) (h zero c refl) ∙ none_over rows (λ k d e. h (suc k) d e)

keeps : (zones : List Known) → filter (λ (k : Known). not (list_any (same_range k.range) [])) zones ≡ zones
keeps [] = refl
keeps (z ∷ zones) = ap (λ l. z ∷ l) (keeps zones)

zones_kept : (rows : List RouteRow) (zones : List Known) → AreGood rows → without_gone rows zones ≡ zones
zones_kept rows zones good =
    let none = none_over rows (λ k c e. not_over c (λ d. good k c e d)) in
    ap (λ (over : List RouteRow). filter (λ (k : Known). not (list_any (same_range k.range) (map (λ r. r.range) over))) zones) none ∙ keeps zones

zones_stay : (phase : ℕ) (rows : List RouteRow) (zones : List Known) → AreGood rows → zones_aged phase rows zones ≡ zones
zones_stay phase rows zones good = by (phase == 0)
  where
    by : (b : Bool) → (if b then without_gone rows zones else zones) ≡ zones
    by true = zones_kept rows zones good
    by false = refl

-- ---- Routing data

plain_may : (IsTold : Rattle.cable_model.specs.Transcript.Frame → Type 0) (seats : List Seat) (k : ℕ) (o : Output) → IsPlainOutput o
    → MayPut IsTold seats k o
plain_may t seats k (output.Made port to bytes) p = inl p
plain_may t seats k (output.Passed port to bytes) p = tt
plain_may t seats k (output.Kept port bytes) p = tt
plain_may t seats k (output.Dropped cause bytes) p = tt
plain_may t seats k (output.Wire port to bytes) p = tt

pub plain_all : (IsTold : Rattle.cable_model.specs.Transcript.Frame → Type 0) (seats : List Seat) (k : ℕ) (os : List Output)
    → Each IsPlainOutput os → Each (MayPut IsTold seats k) os
plain_all t seats k [] p = tt
plain_all t seats k (o ∷ os) p = (plain_may t seats k o p.0, plain_all t seats k os p.1)

module _ (i : Internet) (ok : Passes i) (seats : List Seat) (r : ℕ) (l : Living) (g : IsRouterAt i seats r l) (rows : List RouteRow)
    (moved : AreMovedRows i r g.x rows) where
  teller : (n : ℕ) (c : Choice) → slice_get l.router.ports n ≡ Some c → IsTeller i r n c.range c.tentative
  teller n c e =
      let p = g.port n c e in
      record {
        their = g.x;
        their_at = g.x_at;
        port = p.0;
        port_at = p.1;
        cable = p.2;
        cable_at = p.3;
        spans = p.4;
        address = p.5;
      }

  one_data : (n : ℕ) (c : Choice) → slice_get l.router.ports n ≡ Some c → (m : ℕ) (p : RoutingData)
      → packet_numbered Split n c.range c.tentative m rows ≡ Some p
      → MayPut (IsToldOf i) seats r (made (data_way n c.tentative) (bytes_of routing_data p)) × IsToAll (made (data_way n c.tentative) (bytes_of routing_data p))
  unfolding teller
  one_data n c e m p sent = (
    inr (
      refl,
      λ s has is by stamp.
          let seat = g.seat s has is in
          let here : At g.x.ports n seat.1 = subst (λ z. At g.x.ports z seat.1) by seat.3 in
          let same : seat.1 ≡ (teller n c e).port = at_one g.x.ports n seat.1 (teller n c e).port here (teller n c e).port_at in
          telling i ok r n c.range c.tentative (teller n c e) rows moved m p sent s.cable s.station stamp
          (sym seat.4 ∙ ap (λ (z : Port). z.cable) same) is,
    ),
    refl,
  )

  option_data : (n : ℕ) (c : Choice) → slice_get l.router.ports n ≡ Some c → (m : ℕ) (o : Option RoutingData)
      → packet_numbered Split n c.range c.tentative m rows ≡ o
      → Each (λ (p : RoutingData). MayPut (IsToldOf i) seats r (made (data_way n c.tentative) (bytes_of routing_data p))
      × IsToAll (made (data_way n c.tentative) (bytes_of routing_data p))) (option_to_list o)
  option_data n c e m None sent = tt
  option_data n c e m (Some p) sent = (one_data n c e m p sent, tt)

  abbrev IsGoodOut : Output → Type 0
  IsGoodOut o = MayPut (IsToldOf i) seats r o × IsToAll o

  all_made : (n : ℕ) (c : Choice) (ps : List RoutingData)
      → Each (λ (p : RoutingData). MayPut (IsToldOf i) seats r (made (data_way n c.tentative) (bytes_of routing_data p))
      × IsToAll (made (data_way n c.tentative) (bytes_of routing_data p))) ps
      → Each IsGoodOut (map (λ p. made (data_way n c.tentative) (bytes_of routing_data p)) ps)
  all_made n c [] h = tt
  all_made n c (p ∷ ps) h = (h.0, all_made n c ps h.1)

  port_data : (n : ℕ) (c : Choice) → slice_get l.router.ports n ≡ Some c → Each IsGoodOut (data_by n c.range (Some c.tentative) rows)
  port_data n c e =
      let P : RoutingData → Type 0 = λ p. MayPut (IsToldOf i) seats r (made (data_way n c.tentative) (bytes_of routing_data p))
      × IsToAll (made (data_way n c.tentative) (bytes_of routing_data p)) in
      all_made n c (packets_for n c.range c.tentative rows)
      (each-append P (option_to_list (packet_numbered Split n c.range c.tentative 0 rows)
      ++ option_to_list (packet_numbered Split n c.range c.tentative 1 rows)) (option_to_list (packet_numbered Split n c.range c.tentative 2 rows))
      (each-append P (option_to_list (packet_numbered Split n c.range c.tentative 0 rows))
      (option_to_list (packet_numbered Split n c.range c.tentative 1 rows))
      (option_data n c e 0 _ refl) (option_data n c e 1 _ refl)) (option_data n c e 2 _ refl))

  settled_is : (n : ℕ) (c : Choice) → slice_get l.router.ports n ≡ Some c → settled_of c ≡ Some c.tentative
  settled_is n c e = rw (one_settled l.router.ports n c g.settled e) refl

  ports_data : (n : ℕ) (cs : List Choice) → ((j : ℕ) (c : Choice) → slice_get cs j ≡ Some c → slice_get l.router.ports (n + j) ≡ Some c)
      → Each IsGoodOut (data_from n cs rows)
  ports_data n [] h = tt
  ports_data n (c ∷ cs) h =
      let zero_more : n + 0 ≡ n = omega arith in
      let e : slice_get l.router.ports n ≡ Some c = sym (ap (slice_get l.router.ports) zero_more) ∙ h zero c refl in
      each-append IsGoodOut (data_by n c.range (settled_of c) rows) (data_from (n + 1) cs rows)
      (subst (λ o. Each IsGoodOut (data_by n c.range o rows)) (sym (settled_is n c e)) (port_data n c e))
      (ports_data (n + 1) cs (λ j d f.
      let later : (n + 1) + j ≡ n + suc j = omega arith in
      ap (slice_get l.router.ports) later ∙ h (suc j) d f))

  sent_good : (ports : List Choice) → ports ≡ l.router.ports → (zones : List Known) → queries_of rows zones ≡ [] → (phase : ℕ)
      → Each IsGoodOut (if phase % 50 == 0 then data_from 0 ports rows ++ all_queries ports (queries_of rows zones) else [])
  sent_good ports is zones none phase = by (phase % 50 == 0)
    where
      data_good : Each IsGoodOut (data_from 0 ports rows)
      data_good =
          subst (λ (ps : List Choice). Each IsGoodOut (data_from 0 ps rows)) (sym is)
          (ports_data 0 l.router.ports (λ j c e. let same : 0 + j ≡ j = omega arith in ap (slice_get l.router.ports) same ∙ e))

      by : (b : Bool) → Each IsGoodOut (if b then data_from 0 ports rows ++ all_queries ports (queries_of rows zones) else [])
      by true =
          each-append IsGoodOut (data_from 0 ports rows) _ data_good
          (subst (λ qs. Each IsGoodOut (all_queries ports qs)) (sym none) tt)
      by false = tt

firsts : (P Q : Output → Type 0) (os : List Output) → Each (λ o. P o × Q o) os → Each P os
firsts P Q [] h = tt
firsts P Q (o ∷ os) h = (h.0.0, firsts P Q os h.1)

seconds : (P Q : Output → Type 0) (os : List Output) → Each (λ o. P o × Q o) os → Each Q os
seconds P Q [] h = tt
seconds P Q (o ∷ os) h = (h.0.1, seconds P Q os h.1)

-- ---- A station

module _ (i : Internet) (ok : Passes i) (seats : List Seat) where
  rows_tick : (r : ℕ) (l : Living) (g : IsRouterAt i seats r l) (phase : ℕ) → AreGood l.router.routes
      → AreMovedRows i r g.x (routes_aged phase l.router.routes)
  rows_tick r l g phase good = by (phase == 0)
    where
      by : (b : Bool) → AreMovedRows i r g.x (if b then aged l.router.routes else l.router.routes)
      by true = rows_aged i r g.x l.router.routes g.rows good
      by false = g.rows

  router_ticks : (r : ℕ) (a b : Living) (g : IsRouterAt i seats r a) (outputs : List Output) → AreGood a.router.routes → RouterTicks a outputs b
      → Each (MayPut (IsToldOf i) seats r) outputs × IsLike i r (RouterMember a) (RouterMember b) × Each IsToAll outputs
      × HasTickedTo (RouterMember a) (RouterMember b)
  router_ticks r a b g outputs good h =
      let w = ticks a b outputs g.settled h in
      let moved : AreMovedRows i r g.x b.router.routes = subst (AreMovedRows i r g.x) (sym w.routes) (rows_tick r a g (phase_after a.phase) good) in
      let zones : b.router.zones ≡ a.router.zones = w.zones ∙ zones_stay (phase_after a.phase) a.router.routes a.router.zones good in
      let none = asks_nobody i ok r g.x g.x_at b.router.zones (g.lists ∙ ap (map _) (sym zones)) b.router.routes moved in
      let all = subst (Each (λ o. MayPut (IsToldOf i) seats r o × IsToAll o)) (sym w.sends)
      (sent_good i ok seats r a g b.router.routes moved b.router.ports w.ports b.router.zones none (phase_after a.phase)) in (
        firsts (MayPut (IsToldOf i) seats r) IsToAll outputs all,
        router_like i seats r a b g (record { ports = w.ports; zones = zones }) moved,
        seconds (MayPut (IsToldOf i) seats r) IsToAll outputs all,
        (w.phase, λ n fresh. subst (IsFreshAt n) (sym w.routes) fresh),
      )

  node_tick : (k : ℕ) (a b : LivingNode) (g : IsNodeAt i seats k a) (outputs : List Output) → NodeTicks a outputs b
      → Each (MayPut (IsToldOf i) seats k) outputs × IsLike i k (NodeMember a) (NodeMember b)
  node_tick k a b g outputs h =
      let w = node_ticks a b outputs g.quiet h in
      (plain_all (IsToldOf i) seats k outputs w.0, node_like i seats k a b g w.1 (by w.2))
    where
      by : (b.node.router ≡ a.node.router) ⊎ (b.node.router ≡ None) → IsServedOn i g.y.cable b
      by (inl same) z e = g.served z (sym same ∙ e)
      by (inr none) z e = let no : None ≡ Some z = sym none ∙ e in absurd cc

  -- a station of the image with Good rows passes a tick: what it puts out it may put, and it is like before
  pub ticks_alike : (k : ℕ) (a b : Member Living LivingNode) (g : IsStationAt i seats k a) (outputs : List Output) → HasGoodRows a
      → EitherTicks RouterTicks NodeTicks a outputs b
      → Each (MayPut (IsToldOf i) seats k) outputs × IsLike i k a b × AreToAll a outputs × HasTickedTo a b
  ticks_alike k (RouterMember a) (RouterMember b) g outputs good h = router_ticks k a b g outputs good h
  ticks_alike k (NodeMember a) (NodeMember b) g outputs good h = let w = node_tick k a b g outputs h in (w.0, w.1, tt, tt)
  ticks_alike k (RouterMember a) (NodeMember b) g outputs good h = absurd h
  ticks_alike k (NodeMember a) (RouterMember b) g outputs good h = absurd h
