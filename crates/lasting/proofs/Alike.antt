-- Stations of a world whose image passes and is settled, as they hear frames that are fine: routers keep their ports and
-- their zone lists, and their rows may move; nodes keep all but their routers.
use Rattle.std.proofs.Common.{◌≡◌, ◌⊎◌, inl, inr, ℕ, zero, suc, ◌+◌, ◌==◌, true, not, ◌&&◌, List, [], ◌∷◌}
use Rattle.std.proofs.Common.{Some, refl, sym, ap, ◌∙◌, subst, slice_get, length, map, filter, is_some, eqb-true, eq-eqb, true≢false, arith, take, drop, ◌*◌}
use Rattle.std.specs.List.{AllByRecursion as Each}
use Rattle.std.proofs.lemmas.Bool.{and_from, and_parts}
use Rattle.std.proofs.lemmas.Option.{same_Some}
use Rattle.aarp.specs.Choosing.{Choice}
use Rattle.at_base.specs.Address.{same_address}
use Rattle.at_base.specs.Multicast.{all_hw}
use Rattle.at_base.specs.Range.{Span}
use Rattle.at_base.specs.declared.address.Addr.{Addr}
use Rattle.at_base.specs.declared.address.Hw.{Hw}
use Rattle.audit.proofs.Owners.{only_router}
use Rattle.audit.proofs.WalkLists.{At, at_one}
use Rattle.audit.specs.Routing.{owner}
use Rattle.audit.specs.Rules.{Passes}
use Rattle.cable_model.proofs.Counting.{each-append, each_at, each_map, filter_at}
use Rattle.cable_model.specs.Outcomes.{heard_by, link_of}
use Rattle.cable_model.specs.Pending.{Pair, is_for, is_heard, pairs, pairs_of, pending, was_ended}
use Rattle.cable_model.specs.Transcript.{Entry, Frame, Sent, Put, Took, Reached, Dropped, Lost, Hold}
use Rattle.cable_model.specs.declared.seat.Seat.{Seat}
use Rattle.lasting.specs.Plain.{IsPlainOutput}
use Rattle.lasting.proofs.Asking.{image_list}
use Rattle.lasting.proofs.Entries.{IsFine}
use Rattle.lasting.proofs.Nodes.{IsLikeNode, like_then, node_data, node_heard, node_plain, still_quiet}
use Rattle.lasting.proofs.Refreshing.{IsFreshAt}
use Rattle.lasting.proofs.Spreading.{data_keeps, data_makes}
use Rattle.lasting.proofs.Routers.{hears_data, hears_plain, same_then}
use Rattle.lasting.specs.Hears.{IsLikeRouter}
use Rattle.lasting.proofs.Telling.{IsTeller, IsToldOf, router_of_data}
use Rattle.lasting.specs.Standing.{IsQuietNode}
use Rattle.learning.specs.Heard.{routes_after}
use Rattle.live_cables.proofs.Pending.{Has}
use Rattle.live_node.specs.Living.{LivingNode, LiveHears as NodeHears}
use Rattle.live_router.proofs.Settled.{AreSettled}
use Rattle.live_router.specs.Living.{Living, LiveHears as RouterHears, routes_taught}
use Rattle.rtmp.specs.Sending.{packet_numbered, rows_sent}
use Rattle.rtmp.specs.declared.request.Horizon.TheVariants.{Split}
use Rattle.rtmp.specs.declared.row.Row.{Row as RouteRow}
use Rattle.rtmp.specs.declared.tuple.Nonextended.TheVariants.{Skipped}
use Rattle.settled.proofs.Exchange.{data_heard}
use Rattle.settled.proofs.Tests.{any_at}
use Rattle.settled.specs.Exchange.{AreMovedRows, AreNeighbours}
use Rattle.settled.specs.Settling.{IsSettled}
use Rattle.station.specs.Members.{EitherHears}
use Rattle.station.specs.declared.heard.Kind.TheVariants.{Ddp}
use Rattle.station.specs.declared.heard.Link.TheVariants as link
use Rattle.station.specs.declared.member.Member.{Member}
use Rattle.station.specs.declared.member.Member.TheVariants.{Router as RouterMember, Node as NodeMember}
use Rattle.station.specs.declared.output.Output.{Output}
use Rattle.table_image.specs.Bounds.{IsBounded}
use Rattle.table_image.specs.Internet.{Internet}
use Rattle.table_image.specs.declared.cable.Cable.{Cable}
use Rattle.table_image.specs.declared.node.Node.{Node}
use Rattle.table_image.specs.declared.port.Port.{Port}
use Rattle.table_image.specs.declared.router.Router.{Router}
use Rattle.table_image.specs.declared.row.Row.{Row}

-- The image has the router of this station: its ports are settled, on cables of their ranges, and have their seats.
pub record IsRouterAt (i : Internet) (seats : List Seat) (r : ℕ) (l : Living) : Type 0 where
  pub x : Router
  pub x_at : slice_get i.routers r ≡ Some x
  pub settled : AreSettled l.router.ports
  pub lists : x.lists ≡ map image_list l.router.zones
  pub rows : AreMovedRows i r x l.router.routes
  pub port : (n : ℕ) (c : Choice) → slice_get l.router.ports n ≡ Some c
      → (p : Port) × At x.ports n p × (cable : Cable) × At i.cables p.cable cable
      × (c.range ≡ record { start = cable.start; end = cable.end }) × (p.address ≡ c.tentative)
  pub seat : (s : Seat) → Has seats s → s.station ≡ r → (c : Choice) × (p : Port)
      × (slice_get l.router.ports s.port ≡ Some c) × At x.ports s.port p × (p.cable ≡ s.cable)

-- the router of the node, if it has one, is a router's port on this cable
abbrev pub IsServedOn : Internet → ℕ → LivingNode → Type 0
IsServedOn i cable n = (a : Addr) → n.node.router ≡ Some a → is_some (owner i cable a) ≡ true

-- The image has the node of this station, which has its address and asks no more about its cable.
pub record IsNodeAt (i : Internet) (seats : List Seat) (k : ℕ) (n : LivingNode) : Type 0 where
  pub quiet : IsQuietNode n
  pub j : ℕ
  pub number : k ≡ length i.routers + j
  pub y : Node
  pub y_at : At i.nodes j y
  pub served : IsServedOn i y.cable n
  pub seat : (s : Seat) → Has seats s → s.station ≡ k → y.cable ≡ s.cable

abbrev pub IsStationAt : Internet → List Seat → ℕ → Member Living LivingNode → Type 0
IsStationAt i seats k (RouterMember l) = IsRouterAt i seats k l
IsStationAt i seats k (NodeMember n) = IsNodeAt i seats k n

-- the image has these stations
abbrev pub AreGround : Internet → List Seat → List (Member Living LivingNode) → Type 0
AreGround i seats stations = (k : ℕ) (m : Member Living LivingNode) → At stations k m → IsStationAt i seats k m

-- the station has become another with the same addresses: a router's rows may have moved, and a node is served
abbrev pub IsLike : Internet → ℕ → Member Living LivingNode → Member Living LivingNode → Type 0
IsLike i k (RouterMember a) (RouterMember b) =
    IsLikeRouter a b × ((x : Router) → At i.routers k x → AreMovedRows i k x b.router.routes)
IsLike i k (NodeMember a) (NodeMember b) =
    IsLikeNode a b × ((j : ℕ) (y : Node) → k ≡ length i.routers + j → At i.nodes j y → IsServedOn i y.cable b)
IsLike i k (RouterMember a) (NodeMember b) = ⊥
IsLike i k (NodeMember a) (RouterMember b) = ⊥

pub router_like : (i : Internet) (seats : List Seat) (k : ℕ) (a b : Living) (g : IsRouterAt i seats k a) → IsLikeRouter a b
    → AreMovedRows i k g.x b.router.routes → IsLike i k (RouterMember a) (RouterMember b)
router_like i seats k a b g like moved =
    (like, λ x e. subst (λ z. AreMovedRows i k z b.router.routes) (at_one i.routers k g.x x g.x_at e) moved)

pub node_like : (i : Internet) (seats : List Seat) (k : ℕ) (a b : LivingNode) (g : IsNodeAt i seats k a) → IsLikeNode a b
    → IsServedOn i g.y.cable b → IsLike i k (NodeMember a) (NodeMember b)
node_like i seats k a b g like served = (
  like,
  λ j y number e.
      let mine = g.number in
      let same : g.j ≡ j = omega (arith, mine, number) in
      let is : g.y ≡ y = at_one i.nodes j g.y y (subst (λ n. At i.nodes n g.y) same g.y_at) e in
      subst (λ (z : Node). IsServedOn i z.cable b) is served,
)

-- a router has its phase as before, and each of its rows that was direct or Good is so; a node may have anything
abbrev pub StaysFresh : Member Living LivingNode → Member Living LivingNode → Type 0
StaysFresh (RouterMember b) (RouterMember c) =
    (c.phase ≡ b.phase) × ((l : ℕ) → IsFreshAt l b.router.routes → IsFreshAt l c.router.routes)
StaysFresh (RouterMember b) (NodeMember c) = ⊥
StaysFresh (NodeMember b) c = Unit {0}

-- ---- The seat of a pending frame

module _ (seats : List Seat) where
  here : (e : Entry) → Each (λ (p : Pair). Has seats p.seat × (is_heard p.frame p.seat ≡ true)) (pairs_of seats e)
  here (Put f) =
      each_map (λ (p : Pair). Has seats p.seat × (is_heard p.frame p.seat ≡ true)) (λ s. record { frame = f; seat = s }) (filter (is_heard f) seats)
      (all (filter (is_heard f) seats) (λ k s e. let w = filter_at (is_heard f) seats k s e in ((w.0, w.1), w.2)))
    where
      all : (ss : List Seat) → ((k : ℕ) (s : Seat) → At ss k s → Has seats s × (is_heard f s ≡ true))
          → Each (λ s. Has seats s × (is_heard f s ≡ true)) ss
      all [] h = tt
      all (s ∷ ss) h = (h zero s refl, all ss (λ k z e. h (suc k) z e))
  here (Sent s x) = tt
  here (Took p s) = tt
  here (Reached c s w x) = tt
  here (Dropped r c x) = tt
  here (Lost p) = tt
  here (Hold g) = tt

  there : (es : List Entry) → Each (λ (p : Pair). Has seats p.seat × (is_heard p.frame p.seat ≡ true)) (pairs seats es)
  there [] = tt
  there (e ∷ es) = each-append (λ (p : Pair). Has seats p.seat × (is_heard p.frame p.seat ≡ true)) (pairs_of seats e) (pairs seats es) (here e) (there es)

  -- the seat of a pending frame is one of the seats, and hears the frame
  pub seat_hears : (t : List Entry) (p : Pair) → Has (pending seats t) p → Has seats p.seat × (is_heard p.frame p.seat ≡ true)
  seat_hears t p h =
      let w = filter_at (λ p. not (was_ended t p)) (pairs seats t) h.0 p h.1 in
      each_at (λ (p : Pair). Has seats p.seat × (is_heard p.frame p.seat ≡ true)) (pairs seats t) w.0 p w.1 (there t)

-- a frame to all is heard by others on its cable
all_heard : (f : Frame) (s : Seat) → f.to ≡ all_hw → is_heard f s ≡ true → (s.cable ≡ f.cable) × ((s.station ≡ f.sender) → ⊥)
all_heard f s to h =
    let parts = and_parts (s.cable == f.cable) (is_for f.to f.sender s) h in
    let off : not (s.station == f.sender) ≡ true = subst (λ (z : Hw). is_for z f.sender s ≡ true) to parts.1 in
    (eqb-true _ _ parts.0, λ same. true≢false (sym off ∙ ap not (eq-eqb s.station f.sender same)))

module _ (i : Internet) (ok : Passes i) (settled : IsSettled i) (bounded : IsBounded i) (seats : List Seat) where
  -- the address of a port is that of a router on the cable
  owned : (s q : ℕ) (range : Span) (me : Addr) → (w : IsTeller i s q range me) → owner i w.port.cable me ≡ Some s
  owned s q range me w =
      let port = w.port in
      let mine : owner i port.cable port.address ≡ Some s =
      sym (only_router port.cable port.address i s w.their (λ p. ok 2 p) w.their_at
      (any_at (λ (p : Port). p.cable == port.cable && same_address p.address port.address) w.their.ports q port w.port_at
      (and_from _ _ (eq-eqb port.cable port.cable refl)
      (and_from _ _ (eq-eqb port.address.net port.address.net refl) (eq-eqb port.address.node port.address.node refl))))) in
      subst (λ a. owner i port.cable a ≡ Some s) w.address mine

  -- two routers on the cable of a frame with routing data
  neighbours : (r : ℕ) (l : Living) (g : IsRouterAt i seats r l) (f : Frame) (t : IsToldOf i f) (s : Seat) → Has seats s → s.station ≡ r
      → is_heard f s ≡ true → (c : Choice) → slice_get l.router.ports s.port ≡ Some c
      → (w : AreNeighbours i r s.port t.s t.q t.range) × (w.router ≡ g.x) × (w.their ≡ t.teller.their) × (w.their_port.address ≡ t.me) × (c.range ≡ t.range)
  neighbours r l g f t s has is hears c ec =
      let heard = all_heard f s t.to hears in
      let seat = g.seat s has is in
      let port = g.port s.port c ec in
      let same_port : seat.1 ≡ port.0 = at_one g.x.ports s.port seat.1 port.0 seat.3 port.1 in
      let on_seat : port.0.cable ≡ s.cable = ap (λ (p : Port). p.cable) (sym same_port) ∙ seat.4 in
      let shared : t.teller.port.cable ≡ port.0.cable = sym t.on ∙ (sym heard.0 ∙ sym on_seat) in
      let cable : t.teller.cable ≡ port.2 =
      at_one i.cables port.0.cable t.teller.cable port.2 (subst (λ n. At i.cables n t.teller.cable) shared t.teller.cable_at) port.3 in
      let spans : t.range ≡ record { start = port.2.start; end = port.2.end } =
      t.teller.spans ∙ ap (λ (z : Cable). record { start = z.start; end = z.end }) cable in (
        record {
          router = g.x;
          router_at = g.x_at;
          port = port.0;
          port_at = port.1;
          their = t.teller.their;
          their_at = t.teller.their_at;
          their_port = t.teller.port;
          their_port_at = t.teller.port_at;
          other = λ same. heard.1 (is ∙ (same ∙ sym t.by));
          shared = shared;
          cable = port.2;
          cable_at = port.3;
          spans = spans;
        },
        refl,
        refl,
        t.teller.address,
        port.4 ∙ sym spans,
      )

  -- the rows of a router that hears a frame with routing data may have moved
  data_moves : (r : ℕ) (l : Living) (g : IsRouterAt i seats r l) (now : Living) (f : Frame) (t : IsToldOf i f) (s : Seat) → Has seats s
      → s.station ≡ r → is_heard f s ≡ true → IsLikeRouter l now → AreMovedRows i r g.x now.router.routes
      → AreMovedRows i r g.x (routes_taught s.port now.router.routes (slice_get now.router.ports s.port) (Some t.packet))
  unfolding neighbours
  data_moves r l g now f t s has is hears like moved =
      let seat = g.seat s has is in
      let c = seat.0 in
      let here : slice_get now.router.ports s.port ≡ Some c = ap (λ ps. slice_get ps s.port) like.ports ∙ seat.2 in
      let w = neighbours r l g f t s has is hears c seat.2 in
      let after =
      data_heard i ok settled bounded r s.port t.s t.q t.range w.0 now.router.routes t.rows moved t.moved t.m t.packet
      (subst (λ a. packet_numbered Split t.q t.range a t.m t.rows ≡ Some t.packet) (sym w.3) t.sent) in
      subst (λ o. AreMovedRows i r g.x (routes_taught s.port now.router.routes o (Some t.packet))) (sym here)
      (subst (λ z. AreMovedRows i r g.x (routes_after Skipped z s.port t.packet now.router.routes)) (sym w.4) after)

  -- and those that were fresh are
  data_fresh : (r : ℕ) (l : Living) (g : IsRouterAt i seats r l) (now : Living) (f : Frame) (t : IsToldOf i f) (s : Seat) → Has seats s
      → s.station ≡ r → is_heard f s ≡ true → IsLikeRouter l now → AreMovedRows i r g.x now.router.routes → (n : ℕ) → IsFreshAt n now.router.routes
      → IsFreshAt n (routes_taught s.port now.router.routes (slice_get now.router.ports s.port) (Some t.packet))
  unfolding neighbours
  data_fresh r l g now f t s has is hears like moved n fresh =
      let seat = g.seat s has is in
      let c = seat.0 in
      let here : slice_get now.router.ports s.port ≡ Some c = ap (λ ps. slice_get ps s.port) like.ports ∙ seat.2 in
      let w = neighbours r l g f t s has is hears c seat.2 in
      let sent = subst (λ a. packet_numbered Split t.q t.range a t.m t.rows ≡ Some t.packet) (sym w.3) t.sent in
      let after =
      data_keeps i ok settled bounded r s.port t.s t.q t.range w.0 t.rows t.moved t.m t.packet sent now.router.routes moved n fresh in
      subst (λ o. IsFreshAt n (routes_taught s.port now.router.routes o (Some t.packet))) (sym here)
      (subst (λ z. IsFreshAt n (routes_after Skipped z s.port t.packet now.router.routes)) (sym w.4) after)

  -- and what they tell of is
  data_refreshes : (r : ℕ) (l : Living) (g : IsRouterAt i seats r l) (now : Living) (f : Frame) (t : IsToldOf i f) (s : Seat) → Has seats s
      → s.station ≡ r → is_heard f s ≡ true → IsLikeRouter l now → AreMovedRows i r g.x now.router.routes
      → (n : ℕ) (a : Row) → At g.x.rows n a → (j : ℕ) (d : RouteRow) → At (take 96 (drop (t.m * 96) (rows_sent Split t.q t.rows))) j d
      → d.range.start ≡ a.start → d.distance + 1 ≡ a.distance
      → IsFreshAt n (routes_taught s.port now.router.routes (slice_get now.router.ports s.port) (Some t.packet))
  unfolding neighbours
  data_refreshes r l g now f t s has is hears like moved n a ea j d ed start far =
      let seat = g.seat s has is in
      let c = seat.0 in
      let here : slice_get now.router.ports s.port ≡ Some c = ap (λ ps. slice_get ps s.port) like.ports ∙ seat.2 in
      let w = neighbours r l g f t s has is hears c seat.2 in
      let sent = subst (λ a. packet_numbered Split t.q t.range a t.m t.rows ≡ Some t.packet) (sym w.3) t.sent in
      let after =
      data_makes i ok settled bounded r s.port t.s t.q t.range w.0 t.rows t.moved t.m t.packet sent now.router.routes moved n a ea j d ed start far in
      subst (λ o. IsFreshAt n (routes_taught s.port now.router.routes o (Some t.packet))) (sym here)
      (subst (λ z. IsFreshAt n (routes_after Skipped z s.port t.packet now.router.routes)) (sym w.4) after)

  -- ---- A station hears a frame

  module _ (k : ℕ) (p : Pair) (has : Has seats p.seat) (of : p.seat.station ≡ k) (hears : is_heard p.frame p.seat ≡ true) where
    data_frame : (t : IsToldOf i p.frame) → heard_by p ≡ record { port = p.seat.port; link = link.All; kind = Ddp; bytes = p.frame.bytes }
    data_frame t =
        ap (λ (to : Hw). record { port = p.seat.port; link = link_of to; kind = p.frame.kind; bytes = p.frame.bytes }) t.to
        ∙ ap (λ kind. record { port = p.seat.port; link = link.All; kind = kind; bytes = p.frame.bytes }) t.kind

    router_hears : (a b c : Living) (g : IsRouterAt i seats k a) (added : List Output) → IsFine (IsToldOf i) p.frame
        → IsLikeRouter a b → AreMovedRows i k g.x b.router.routes → RouterHears b (heard_by p) added c
        → Each IsPlainOutput added × IsLikeRouter a c × AreMovedRows i k g.x c.router.routes × StaysFresh (RouterMember b) (RouterMember c)
    router_hears a b c g added (inl plain) like moved h =
        let w = hears_plain b c (heard_by p) added (subst AreSettled (sym like.ports) g.settled) plain h in (
          w.plain,
          same_then a b c like w.like,
          subst (AreMovedRows i k g.x) (sym w.routes) moved,
          (w.phase, λ l fresh. subst (IsFreshAt l) (sym w.routes) fresh),
        )
    router_hears a b c g added (inr t) like moved h =
        let w =
        hears_data b c p.seat.port p.frame.bytes added t.me t.packet t.read t.heard (subst (λ x. RouterHears b x added c) (data_frame t) h) in (
          subst (Each IsPlainOutput) (sym w.silent) tt,
          same_then a b c like w.like,
          subst (AreMovedRows i k g.x) (sym w.routes) (data_moves k a g b p.frame t p.seat has of hears like moved),
          (w.phase, λ l fresh. subst (IsFreshAt l) (sym w.routes) (data_fresh k a g b p.frame t p.seat has of hears like moved l fresh)),
        )

    -- a router that hears what tells of a row has it fresh
    pub router_refreshes : (a b c : Living) (g : IsRouterAt i seats k a) (added : List Output) (t : IsToldOf i p.frame)
        → IsLikeRouter a b → AreMovedRows i k g.x b.router.routes → RouterHears b (heard_by p) added c
        → (n : ℕ) (x : Row) → At g.x.rows n x → (j : ℕ) (d : RouteRow) → At (take 96 (drop (t.m * 96) (rows_sent Split t.q t.rows))) j d
        → d.range.start ≡ x.start → d.distance + 1 ≡ x.distance → IsFreshAt n c.router.routes
    router_refreshes a b c g added t like moved h n x ex j d ed start far =
        let w =
        hears_data b c p.seat.port p.frame.bytes added t.me t.packet t.read t.heard (subst (λ x. RouterHears b x added c) (data_frame t) h) in
        subst (IsFreshAt n) (sym w.routes) (data_refreshes k a g b p.frame t p.seat has of hears like moved n x ex j d ed start far)

    node_hears : (a b c : LivingNode) (g : IsNodeAt i seats k a) (added : List Output) → IsFine (IsToldOf i) p.frame
        → IsLikeNode a b → IsServedOn i g.y.cable b → NodeHears b (heard_by p) added c
        → Each IsPlainOutput added × IsLikeNode a c × IsServedOn i g.y.cable c
    node_hears a b c g added (inl plain) like served h =
        let w = node_heard b c (heard_by p) added (still_quiet a b like g.quiet) plain h in
        (node_plain b c (heard_by p) added plain h, like_then a b c like w.0, λ z e. served z (sym w.1 ∙ e))
    node_hears a b c g added (inr t) like served h =
        let w =
        node_data b c p.seat.port p.frame.bytes added t.me t.packet t.read t.heard (still_quiet a b like g.quiet)
        (subst (λ x. NodeHears b x added c) (data_frame t) h) in
        let cable : t.teller.port.cable ≡ g.y.cable = sym t.on ∙ (sym (all_heard p.frame p.seat t.to hears).0 ∙ sym (g.seat p.seat has of)) in
        let mine : owner i g.y.cable t.packet.router ≡ Some t.s =
        subst (λ z. owner i g.y.cable z ≡ Some t.s) (sym (router_of_data t.q t.range t.me t.m t.rows t.packet t.sent))
        (subst (λ z. owner i z t.me ≡ Some t.s) cable (owned t.s t.q t.range t.me t.teller)) in (
          subst (Each IsPlainOutput) (sym w.0) tt,
          like_then a b c like w.1,
          λ z e. by z mine e w.2,
        )
      where
        by : (z : Addr) → owner i g.y.cable t.packet.router ≡ Some t.s → c.node.router ≡ Some z
            → (c.node.router ≡ b.node.router) ⊎ (c.node.router ≡ Some t.packet.router) → is_some (owner i g.y.cable z) ≡ true
        by z mine e (inl same) = served z (sym same ∙ e)
        by z mine e (inr new) =
            let is : t.packet.router ≡ z = same_Some t.packet.router z (sym new ∙ e) in
            ap (λ a. is_some (owner i g.y.cable a)) (sym is) ∙ ap is_some mine

    -- a station that is like one of the image hears a frame that is fine, puts out what is plain, and is like it after that
    pub hears_alike : (a b c : Member Living LivingNode) (g : IsStationAt i seats k a) (added : List Output) → IsFine (IsToldOf i) p.frame
        → IsLike i k a b → EitherHears RouterHears NodeHears b (heard_by p) added c
        → Each IsPlainOutput added × IsLike i k a c × StaysFresh b c
    hears_alike (RouterMember a) (RouterMember b) (RouterMember c) g added f like h =
        let w = router_hears a b c g added f like.0 (like.1 g.x g.x_at) h in (w.0, router_like i seats k a c g w.1 w.2, w.3)
    hears_alike (NodeMember a) (NodeMember b) (NodeMember c) g added f like h =
        let w = node_hears a b c g added f like.0 (like.1 g.j g.y g.number g.y_at) h in (w.0, node_like i seats k a c g w.1 w.2, tt)
    hears_alike (RouterMember a) (NodeMember b) c g added f like h = absurd like
    hears_alike (NodeMember a) (RouterMember b) c g added f like h = absurd like
    hears_alike (RouterMember a) (RouterMember b) (NodeMember c) g added f like h = absurd h
    hears_alike (NodeMember a) (NodeMember b) (RouterMember c) g added f like h = absurd h
