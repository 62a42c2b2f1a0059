-- What seats know stays so through a tick of stations that have settled.
use Rattle.std.proofs.Common.{◌≡◌, ◌⊎◌, inl, inr, ℕ, zero, suc, ◌<◌, ◌==◌, ◌&&◌, Bool, true, false, not, List, [], ◌∷◌, Option, Some, None, refl, sym, ap}
use Rattle.std.proofs.Common.{◌∙◌, subst, length, filter, eqb-true, arith}
use Rattle.std.specs.Prelude.{Contains, if◌then◌else◌}
use Rattle.std.specs.List.{AllByRecursion as Each}
use Rattle.std.specs.Option.{unwrap_or}
use Rattle.std.proofs.lemmas.Bool.{and_parts}
use Rattle.aarp.specs.Choosing.{Choice}
use Rattle.aarp.specs.Mapping.{learnt}
use Rattle.aarp.specs.declared.packet.Function.{Function}
use Rattle.aarp.specs.declared.packet.Function.TheVariants.{Request, Response, Probe}
use Rattle.aarp.specs.declared.packet.Packet.{Packet}
use Rattle.at_base.specs.Address.{same_address}
use Rattle.at_base.specs.Limits.{max_mappings}
use Rattle.at_base.specs.declared.address.Addr.{Addr}
use Rattle.at_base.specs.declared.address.Hw.{Hw}
use Rattle.audit.proofs.Finding.{from_take}
use Rattle.audit.proofs.WalkLists.{At, at_one}
use Rattle.cable_model.proofs.Counting.{contained_at, filter_at}
use Rattle.cable_model.specs.Logs.{pending_on, transcript}
use Rattle.cable_model.specs.Outcomes.{cable_of, heard_by}
use Rattle.cable_model.specs.Pending.{Pair, is_for}
use Rattle.cable_model.specs.declared.seat.Seat.{Seat}
use Rattle.ddp.specs.Datagram.{Datagram}
use Rattle.end_node.specs.Taking.{taken}
use Rattle.lasting.proofs.Alike.{seat_hears}
use Rattle.lasting.proofs.Carrying as carrying
use Rattle.lasting.proofs.Honest.{AreHonest, IsHonest, IsHonestOutput}
use Rattle.lasting.proofs.Honestly.{IsHonestStep, gives_step, honest_then, passes_step, takes_step}
use Rattle.lasting.proofs.Learning.{gives_known, known_of, passes_known, takes_known}
use Rattle.lasting.proofs.Nodes.{answers_stay}
use Rattle.lasting.proofs.Packed.{reads}
use Rattle.lasting.proofs.Replying.{choices_in, station_honest}
use Rattle.lasting.proofs.Routers.{ticks}
use Rattle.lasting.proofs.Stored.{position_at}
use Rattle.lasting.proofs.Unwired.{AreUnwired, acted_unwired, node_ticks, router_ticks}
use Rattle.lasting.proofs.Waited.{hears_ports}
use Rattle.live_cables.proofs.Pending.{Has}
use Rattle.live_cables.specs.Finding.{answer_of, said, seat_by}
use Rattle.live_cables.specs.Living.{GivesOut, TakesIn, Wires, happened}
use Rattle.live_cables.specs.Putting.{IsAnswer}
use Rattle.live_cables.specs.declared.answer.Answer.{Answer}
use Rattle.live_node.specs.Living.{LivingNode, LiveHears as NodeHears, is_waiting, routed, taught, told}
use Rattle.live_node.specs.Ticking.{LiveTicks as NodeTicks}
use Rattle.live_router.proofs.Settled.{AreSettled}
use Rattle.live_router.specs.Living.{Living, LiveHears as RouterHears}
use Rattle.live_router.specs.Ticking.{LiveTicks as RouterTicks}
use Rattle.planned_stations.specs.Planning.{ports_of}
use Rattle.rtmp.specs.Data.{RoutingData, routing_in}
use Rattle.station.specs.Hearing.{Hearing}
use Rattle.station.specs.Members.{EitherHears, EitherTicks}
use Rattle.station.specs.Resolution.{packet_at}
use Rattle.station.specs.Ways.{is_to}
use Rattle.station.specs.declared.heard.Kind.{Kind}
use Rattle.station.specs.declared.heard.Kind.TheVariants.{Aarp, Ddp}
use Rattle.station.specs.declared.member.Member.{Member}
use Rattle.station.specs.declared.member.Member.TheVariants.{Router as RouterMember, Node as NodeMember}
use Rattle.station.specs.declared.output.Output.{Output}
use Rattle.world.specs.Doing.{given_up}
use Rattle.world.specs.Ticking.{IsTick}
use Rattle.world.specs.Worlds.{Worldly}
use Rattle.zip_zones.specs.Formats.{zones_in}
use Rattle.zip_zones.specs.declared.packet.Packet.{Packet as ZipPacket}
use Rattle.zip_zones.specs.declared.packet.Packet.TheVariants as zip

-- ---- Ports that stay

-- what a node learns leaves its port
routed_port : (l : LivingNode) (o : Option RoutingData) → (routed l o).node.port ≡ l.node.port
routed_port l None = refl
routed_port l (Some p) = refl

-- nor does a ZIP packet change it
told_port : (l : LivingNode) (o : Option ZipPacket) → (told l o).node.port ≡ l.node.port
told_port l None = refl
told_port l (Some (zip.Query nets)) = refl
told_port l (Some (zip.Reply count entries)) = refl
told_port l (Some (zip.GetNetInfo unused asked)) = refl
told_port l (Some (zip.NetInfoReply info)) = by (is_waiting l)
  where
    by : (b : Bool)
        → (if b then record l { node = record l.node { zone = unwrap_or info.default l.node.zone }; answered = true } else l).node.port
        ≡ l.node.port
    by true = refl
    by false = refl
told_port l (Some (zip.ExtendedReply total entries)) = refl

-- nor any datagram
taught_port : (l : LivingNode) (o : Option Datagram) → (taught l o).node.port ≡ l.node.port
taught_port l None = refl
taught_port l (Some d) = by (is_to 1 1 d) (is_to 6 6 d)
  where
    by : (a b : Bool)
        → (if a then routed l (routing_in d.payload) else if b then told l (zones_in d.payload) else l).node.port ≡ l.node.port
    by true b = routed_port l (routing_in d.payload)
    by false true = told_port l (zones_in d.payload)
    by false false = refl

-- a node that has settled keeps its port where it hears a frame
node_hears_port : (a b : LivingNode) (x : Hearing) (added : List Output) → a.node.port.is_settled ≡ true → NodeHears a x added b
    → b.node.port ≡ a.node.port
node_hears_port a b x added settled h =
    ap (λ (l : LivingNode). l.node.port) h.learns ∙ (taught_port (record a { node = h.answered }) (taken a.node x) ∙ (answers_stay a.node h.answered x added settled h.answers).port)

-- and in a tick
node_ticks_port : (a b : LivingNode) (added : List Output) → a.node.port.is_settled ≡ true → NodeTicks a added b → b.node.port ≡ a.node.port
node_ticks_port a b added settled h = ap (λ (l : LivingNode). l.node.port) h.left ∙ rw settled refl

-- ---- What is known after a response was learnt

-- it is that of the response, or was known before
learnt_has : (a : Addr) (hw : Hw) (known : List (Addr × Hw)) (x : Addr × Hw) → Has (learnt a hw known) x → (x ≡ (a, hw)) ⊎ Has known x
learnt_has a hw known x h =
    of h.0 (from_take ((a, hw) ∷ filter (λ m. not (same_address a m.0)) known) max_mappings h.0 x h.1).1
  where
    of : (k : ℕ) → At ((a, hw) ∷ filter (λ m. not (same_address a m.0)) known) k x → (x ≡ (a, hw)) ⊎ Has known x
    of zero e = let is : (a, hw) ≡ x = cc in inl (sym is)
    of (suc k) e = let w = filter_at (λ (m : Addr × Hw). not (same_address a m.0)) known k x e in inr (w.0, w.1)

-- ---- A response in an honest frame

module _ (Tells : ℕ → Addr → Hw → Type 0) where
  -- what it says is so
  said_so : (port : ℕ) (cable : ℕ) (p : Packet) (f : Function) → p.function ≡ f → (a : Answer) → said port (Some p) ≡ Some a
      → (p.function ≡ Response → Tells cable p.source p.source_hw) → (a.port ≡ port) × Tells cable a.source a.source_hw
  said_so port cable p Request e a h tells = let g = rw e at h in absurd cc
  said_so port cable p Probe e a h tells = let g = rw e at h in absurd cc
  said_so port cable p Response e a h tells =
      let g : Some (record { port = port; source = p.source; source_hw = p.source_hw }) ≡ Some a = rw e at h in
      let is : record { port = port; source = p.source; source_hw = p.source_hw } ≡ a = cc in
      (sym (ap (λ (x : Answer). x.port) is), subst (λ (x : Answer). Tells cable x.source x.source_hw) is (tells e))

  -- what an honest frame says is so on its cable
  answer_so : (p : Pair) → IsHonest Tells p.frame → (a : Answer) → answer_of (heard_by p) ≡ Some a
      → (a.port ≡ p.seat.port) × Tells p.frame.cable a.source a.source_hw
  answer_so p honest a h = by p.frame.kind refl h
    where
      by : (k : Kind) → p.frame.kind ≡ k → answer_of (record (heard_by p) { kind = k }) ≡ Some a
          → (a.port ≡ p.seat.port) × Tells p.frame.cable a.source a.source_hw
      by Ddp e g = absurd cc
      by Aarp e g =
          let w = honest e in
          let read : packet_at p.frame.bytes ≡ Some w.0.packet = reads p.frame.bytes w.0 w.1 in
          said_so p.seat.port p.frame.cable w.0.packet w.0.packet.function refl a (sym (ap (said p.seat.port) read) ∙ g) w.2

  -- all that the seats know is so on their cables
  abbrev pub AreAllTrue : List Seat → List (List (Addr × Hw)) → Type 0
  AreAllTrue seats ks =
      (j : ℕ) (s : Seat) (l : List (Addr × Hw)) → At seats j s → At ks j l → (x : Addr × Hw) → Has l x → Tells s.cable x.0 x.1

  -- ---- A tick

  module _ (seats : List Seat) (base : ℕ → List Choice) (settled : (k : ℕ) → AreSettled (base k))
      (speaks : (s : Seat) → Has seats s → (c : Choice) → At (base s.station) s.port c → Tells s.cable c.tentative c.hw)
      (found : (s : Seat) → Has seats s → cable_of seats s.station s.port ≡ s.cable)
      (lies : (s : Seat) → Has seats s → s.port < length (base s.station)) where
    -- a station has its ports
    abbrev Known : ℕ → Member Living LivingNode → Type 0
    Known k m = choices_in m ≡ base k

    -- what is pending is honest, and what is known is so
    record Inv (n : ℕ) (w : Wires) : Type 0 where
      same : w.cabling.seats ≡ seats
      honest : AreHonest Tells w.cabling.seats (happened w)
      known : AreAllTrue seats (known_of w.maps)

    -- steps that add honest entries, and leave what is known
    step_on : (n q : ℕ) (old new : Wires) → IsHonestStep Tells old.cabling new.cabling → known_of new.maps ≡ known_of old.maps → Inv n old → Inv q new
    step_on n q old new step known inv = record {
      same = step.seats ∙ inv.same;
      honest = honest_then Tells old.cabling new.cabling inv.honest step;
      known = subst (AreAllTrue seats) (sym known) inv.known;
    }

    -- a station that gives up an address has its ports
    gives_up : (k : ℕ) (m : Member Living LivingNode) (a : Addr) → Known k m → Known k (given_up m a)
    gives_up k (RouterMember l) a is = is
    gives_up k (NodeMember n) a is = is

    -- the port of a node has settled
    node_settled : (k : ℕ) (n : LivingNode) → Known k (NodeMember n) → n.node.port.is_settled ≡ true
    node_settled k n is = (and_parts n.node.port.is_settled true (subst AreSettled (sym is) (settled k))).0

    -- stations keep their ports in a tick, and put out no AARP frames
    ticks_station : (k : ℕ) (m after : Member Living LivingNode) (os : List Output) → Known k m → EitherTicks RouterTicks NodeTicks m os after
        → AreUnwired os × Known k after
    ticks_station k (RouterMember l) (RouterMember l2) os is t =
        let s = subst AreSettled (sym is) (settled k) in (router_ticks l l2 os s t, (ticks l l2 os s t).ports ∙ is)
    ticks_station k (NodeMember a) (NodeMember b) os is t =
        let s = node_settled k a is in (node_ticks a b os s t, ap (λ (c : Choice). c ∷ []) (node_ticks_port a b os s t) ∙ is)
    ticks_station k (RouterMember l) (NodeMember b) os is t = absurd t
    ticks_station k (NodeMember a) (RouterMember l) os is t = absurd t

    -- a station passes a tick
    ticks_on : (k n : ℕ) (m after : Member Living LivingNode) (os : List Output) (old new : Wires) → Known k m
        → EitherTicks RouterTicks NodeTicks m os after → GivesOut k os old new → Inv n old → Inv n new × Known k after
    ticks_on k n m after os old new is t out inv =
        let w = ticks_station k m after os is t in
        (step_on n n old new (gives_step Tells k os old new w.0 out) (gives_known k os old new out) inv, w.1)

    -- stations keep their ports where they hear a frame
    hears_station : (k : ℕ) (m after : Member Living LivingNode) (x : Hearing) (added : List Output) → Known k m
        → EitherHears RouterHears NodeHears m x added after → Known k after
    hears_station k (RouterMember l) (RouterMember l2) x added is h = hears_ports l l2 x added (subst AreSettled (sym is) (settled k)) h ∙ is
    hears_station k (NodeMember a) (NodeMember b) x added is h =
        ap (λ (c : Choice). c ∷ []) (node_hears_port a b x added (node_settled k a is) h) ∙ is
    hears_station k (RouterMember l) (NodeMember b) x added is h = absurd h
    hears_station k (NodeMember a) (RouterMember l) x added is h = absurd h

    module _ (stamp k n : ℕ) (m after : Member Living LivingNode) (old new : Wires) (is : Known k m)
        (h : TakesIn stamp k (ports_of m) (λ heard added. EitherHears RouterHears NodeHears m heard added after) old new) (inv : Inv n old) where
      -- the seat and the frame of a pair that is pending
      pair_is : (p : Pair) → Contains (pending_on old.cabling) p → Has seats p.seat × IsHonest Tells p.frame × (p.seat.cable ≡ p.frame.cable)
      pair_is p there =
          let has = contained_at (pending_on old.cabling) p there in
          let seat = seat_hears old.cabling.seats (transcript old.cabling) p has in
          let parts = and_parts (p.seat.cable == p.frame.cable) (is_for p.frame.to p.frame.sender p.seat) seat.1 in
          (subst (λ ss. Has ss p.seat) inv.same seat.0, inv.honest p has, eqb-true _ _ parts.0)

      outputs_honest : Each (IsHonestOutput Tells old.cabling.seats k) h.2.took.added
      outputs_honest =
          let took = h.2.took in
          let w = pair_is took.pair took.was_pending in
          subst (λ ss. Each (IsHonestOutput Tells ss k) took.added) (sym inv.same)
          (station_honest Tells seats base speaks found lies k (ports_of m) m after took.pair took.added is w.0 took.of_station w.1 took.heard took.lawful)

      -- the response that was learnt at a seat is so on its cable
      answer_true : (a : Answer) → h.2.answer ≡ Some a → (j : ℕ) (s : Seat) → At seats j s → seat_by old.cabling.seats k a.port ≡ Some j
          → Tells s.cable a.source a.source_hw
      answer_true a e j s es at = by h.2.said
        where
          by : IsAnswer old.cabling stamp k h.2.answer → Tells s.cable a.source a.source_hw
          by (inr (none, is_none)) = let f = sym is_none ∙ e in absurd cc
          by (inl (x, heard, said_is)) =
              let p = heard.pair in
              let w = pair_is p heard.was_pending in
              let g = answer_so p w.1 a (sym (ap answer_of heard.heard) ∙ (sym said_is ∙ e)) in
              let at_s = position_at (λ (z : Seat). z.station == k && z.port == a.port) seats j (subst (λ ss. seat_by ss k a.port ≡ Some j) inv.same at) in
              let one : at_s.0 ≡ s = at_one seats j at_s.0 s at_s.1 es in
              let parts = and_parts (at_s.0.station == k) (at_s.0.port == a.port) at_s.2 in
              let station : s.station ≡ k = sym (ap (λ (z : Seat). z.station) one) ∙ eqb-true _ _ parts.0 in
              let port : s.port ≡ p.seat.port = sym (ap (λ (z : Seat). z.port) one) ∙ (eqb-true _ _ parts.1 ∙ g.0) in
              let mine : cable_of seats k p.seat.port ≡ s.cable =
              subst (λ n. cable_of seats n p.seat.port ≡ s.cable) station (subst (λ q. cable_of seats s.station q ≡ s.cable) port (found s (j, es))) in
              let its : cable_of seats k p.seat.port ≡ p.seat.cable =
              subst (λ n. cable_of seats n p.seat.port ≡ p.seat.cable) heard.of_station (found p.seat w.0) in
              subst (λ c. Tells c a.source a.source_hw) (sym w.2 ∙ (sym its ∙ mine)) g.1

      known_after : AreAllTrue seats (known_of new.maps)
      known_after j s l es el x there =
          let w = takes_known stamp k (ports_of m) _ old new h j l el in of w.before w.there w.is
        where
          first_or : (a : Answer) → (before : List (Addr × Hw)) → At (known_of old.maps) j before → Tells s.cable a.source a.source_hw
              → (x ≡ (a.source, a.source_hw)) ⊎ Has before x → Tells s.cable x.0 x.1
          first_or a before at so (inl first) = subst (λ (y : Addr × Hw). Tells s.cable y.0 y.1) (sym first) so
          first_or a before at so (inr old_one) = inv.known j s before es at x old_one

          of : (before : List (Addr × Hw)) → At (known_of old.maps) j before
              → (l ≡ before)
              ⊎ ((a : Answer) × (h.2.answer ≡ Some a) × (seat_by old.cabling.seats k a.port ≡ Some j) × (l ≡ learnt a.source a.source_hw before))
              → Tells s.cable x.0 x.1
          of before at (inl same) = inv.known j s before es at x (subst (λ z. Has z x) same there)
          of before at (inr (a, e, seat, made)) =
              first_or a before at (answer_true a e j s es seat) (learnt_has a.source a.source_hw before x (subst (λ z. Has z x) made there))

      takes_on : Inv n new × Known k after
      takes_on =
          let step = takes_step Tells stamp k (ports_of m) _ old new h outputs_honest in (
            record {
              same = step.seats ∙ inv.same;
              honest = honest_then Tells old.cabling new.cabling inv.honest step;
              known = known_after;
            },
            hears_station k m after _ h.2.took.added is h.2.took.heard,
          )

    -- after a tick that began with nothing under way all that is known is so
    pub tick_true : (old new : Worldly) (t : IsTick old new)
        → ((k : ℕ) (m : Member Living LivingNode) → At old.stations k m → choices_in m ≡ base k) → old.wires.cabling.seats ≡ seats
        → pending_on old.wires.cabling ≡ [] → AreAllTrue seats (known_of old.wires.maps) → AreAllTrue seats (known_of new.wires.maps)
    tick_true old new t all same empty known =
        (carrying.ticked Known Inv (λ k. 0) 0 refl (λ k m is lt. absurd (omega (arith, lt)))
        (λ n w own inv. record { same = inv.same; honest = inv.honest; known = inv.known }) gives_up
        (λ seat v w h inv. step_on seat (suc seat) v w (passes_step Tells seat v w h) (passes_known seat v w h) inv) ticks_on
        (λ k n m action os v w is made out inv.
        step_on n n v w (gives_step Tells k os v w (acted_unwired m action os made) out) (gives_known k os v w out) inv) takes_on old new t all
        (record { same = same; honest = λ p h. absurd (let e = subst (λ l. At l h.0 p) empty h.1 in cc); known = known })).1.known
