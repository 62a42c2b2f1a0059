-- Where all routers have sent routing data, each row is fresh or promised.
use Rattle.std.proofs.Common.{◌≡◌, inl, inr, ℕ, ◌*◌, ◌<◌, ◌==◌, true, false, not, List, ◌∷◌, Some, None}
use Rattle.std.proofs.Common.{sym, ap, ◌∙◌, subst, map, take, drop, arith, if◌then◌else◌, eq-eqb, true≢false}
use Rattle.std.proofs.lemmas.Bool.{and_from, cases_Bool, ne_eqb}
use Rattle.aarp.specs.Choosing.{Choice}
use Rattle.at_base.specs.Spelling.{bytes_of}
use Rattle.audit.proofs.WalkLists.{At, at_below, at_one, at_within}
use Rattle.audit.specs.Rules.{Passes}
use Rattle.cable_model.specs.Logs.{transcript}
use Rattle.cable_model.specs.Pending.{is_heard, pending}
use Rattle.cable_model.specs.declared.seat.Seat.{Seat}
use Rattle.ddp.specs.Datagram.{datagram}
use Rattle.lasting.proofs.Alike.{AreGround}
use Rattle.lasting.proofs.Covering.{IsNextTelling, next_tells}
use Rattle.lasting.proofs.Promising.{AreBright, IsPromise}
use Rattle.lasting.proofs.Speaking.{IsSaid, frame_to_all}
use Rattle.lasting.proofs.Telling.{IsTeller, telling}
use Rattle.lasting.proofs.Turning.{IsThrough}
use Rattle.lasting.specs.Hears.{data_datagram}
use Rattle.live_cables.proofs.Pending.{Has}
use Rattle.live_cables.specs.Living.{Wires, happened}
use Rattle.live_node.specs.Living.{LivingNode}
use Rattle.live_router.specs.Living.{Living}
use Rattle.rtmp.specs.Data.{RoutingData, data_of}
use Rattle.rtmp.specs.Sending.{own_tuple, packet_numbered, rows_sent, sent_tuple}
use Rattle.rtmp.specs.declared.request.Horizon.TheVariants.{Split}
use Rattle.settled.specs.Exchange.{AreMovedRows}
use Rattle.settled.specs.Settling.{IsSettled}
use Rattle.station.specs.declared.member.Member.{Member}
use Rattle.station.specs.declared.member.Member.TheVariants.{Router as RouterMember, Node as NodeMember}
use Rattle.table_image.specs.Bounds.{IsBounded}
use Rattle.table_image.specs.Internet.{Internet}
use Rattle.table_image.specs.Rows.{is_direct}
use Rattle.table_image.specs.declared.port.Port.{Port}
use Rattle.table_image.specs.declared.router.Router.{Router}
use Rattle.table_image.specs.declared.row.Row.{Row}

module _ (i : Internet) (ok : Passes i) (settled : IsSettled i) (bounded : IsBounded i) (seats : List Seat)
    (stations : List (Member Living LivingNode)) (ground : AreGround i seats stations)
    (seated : (k : ℕ) (a : Living) → At stations k (RouterMember a) → (q : ℕ) (c : Choice) → At a.router.ports q c
    → (z : Seat) × Has seats z × (z.station ≡ k) × (z.port ≡ q))
    (router_there : (s : ℕ) (their : Router) → At i.routers s their → (a : Living) × At stations s (RouterMember a))
    (choice_there : (k : ℕ) (a : Living) (ea : At stations k (RouterMember a)) (q : ℕ) (p : Port)
    → At (ground k (RouterMember a) ea).x.ports q p → (c : Choice) × At a.router.ports q c)
    (now : List (Member Living LivingNode)) (w : Wires) (through : IsThrough i ok settled bounded seats stations ground (Unit {0}) now w)
    (said : (k : ℕ) (b : Living) → At now k (RouterMember b) → (q : ℕ) (c : Choice) → At b.router.ports q c → (m : ℕ) (p : RoutingData) → m < 3
    → packet_numbered Split q c.range c.tentative m b.router.routes ≡ Some p
    → IsSaid seats (happened w) k q (bytes_of datagram (data_datagram c.tentative p))) where
  router_now : (s : ℕ) (a : Living) → At stations s (RouterMember a) → (b : Living) × At now s (RouterMember b)
  router_now s a ea =
      let low = at_within stations s (RouterMember a) ea in
      let many = through.count in
      let m = at_below now s (omega (arith, low, many)) in
      by m.0 m.1
    where
      by : (m : Member Living LivingNode) → At now s m → (b : Living) × At now s (RouterMember b)
      by (RouterMember b) e = (b, e)
      by (NodeMember n) e = absurd (through.alike s (RouterMember a) (NodeMember n) ea e)

  promised : (k : ℕ) (a : Living) (ea : At stations k (RouterMember a)) (n : ℕ) (x : Row)
      → IsNextTelling i ok settled bounded k (ground k (RouterMember a) ea).x x → IsPromise i w k x
  unfolding telling
  promised k a ea n x nt =
      let g = ground k (RouterMember a) ea in
      let there = router_there nt.s nt.their nt.their_at in
      let gs = ground nt.s (RouterMember there.0) there.1 in
      let next = router_now nt.s there.0 there.1 in
      let like = through.alike nt.s (RouterMember there.0) (RouterMember next.0) there.1 next.1 in
      let their : gs.x ≡ nt.their = at_one i.routers nt.s gs.x nt.their gs.x_at nt.their_at in
      let theirs_at : At gs.x.ports nt.q nt.theirs = subst (λ (z : Router). At z.ports nt.q nt.theirs) (sym their) nt.theirs_at in
      let c = choice_there nt.s there.0 there.1 nt.q nt.theirs theirs_at in
      let port = gs.port nt.q c.0 c.1 in
      let rows = next.0.router.routes in
      let teller : IsTeller i nt.s nt.q c.0.range c.0.tentative = record {
        their = gs.x;
        their_at = gs.x_at;
        port = port.0;
        port_at = port.1;
        cable = port.2;
        cable_at = port.3;
        spans = port.4;
        address = port.5;
      } in
      let moved : AreMovedRows i nt.s gs.x rows = like.1 gs.x gs.x_at in
      let tell = nt.tells rows (like.1 nt.their nt.their_at) in
      let pk = tell.3 in
      let packet = data_of c.0.tentative (own_tuple c.0.range ∷ map sent_tuple (take 96 (drop (pk.m * 96) (rows_sent Split nt.q rows)))) in
      let sent : packet_numbered Split nt.q c.0.range c.0.tentative pk.m rows ≡ Some packet =
      ap (λ b. if b then Some packet else None) pk.there in
      let en : At next.0.router.ports nt.q c.0 = subst (λ ps. At ps nt.q c.0) (sym like.0.ports) c.1 in
      let h = said nt.s next.0 next.1 nt.q c.0 en pk.m packet pk.few sent in
      let from = gs.seat h.s h.s_at h.of in
      let from_port : from.1 ≡ nt.theirs =
      at_one gs.x.ports nt.q from.1 nt.theirs (subst (λ z. At gs.x.ports z from.1) h.by from.3) theirs_at in
      let own_port : from.1 ≡ port.0 = at_one gs.x.ports nt.q from.1 port.0 (subst (λ z. At gs.x.ports z from.1) h.by from.3) port.1 in
      let cm = choice_there k a ea x.port nt.port nt.port_at in
      let z = seated k a ea x.port cm.0 cm.1 in
      let mine = g.seat z.0 z.1 z.2 in
      let my_port : mine.1 ≡ nt.port = at_one g.x.ports x.port mine.1 nt.port (subst (λ y. At g.x.ports y mine.1) z.3 mine.3) nt.port_at in
      let cable : z.0.cable ≡ h.s.cable =
      sym mine.4 ∙ (ap (λ (p : Port). p.cable) my_port ∙ (sym nt.shared ∙ (ap (λ (p : Port). p.cable) (sym from_port) ∙ from.4))) in
      let frame = frame_to_all h.stamp h.s (bytes_of datagram (data_datagram c.0.tentative packet)) in
      let off : (z.0.station == h.s.station) ≡ false = ne_eqb z.0.station h.s.station (λ e. absurd (nt.other (sym h.of ∙ (sym e ∙ z.2)))) in
      let hears : is_heard frame z.0 ≡ true = and_from (z.0.cable == h.s.cable) _ (eq-eqb z.0.cable h.s.cable cable) (ap not off) in
      record {
        p = record { frame = frame; seat = z.0 };
        waits = subst (λ s. Has (pending s (transcript w.cabling)) (record { frame = frame; seat = z.0 })) (sym through.wires.0) (h.waits z.0 z.1 hears);
        to = z.2;
        telling = record {
          told =
              telling i ok nt.s nt.q c.0.range c.0.tentative teller rows moved pk.m packet sent h.s.cable h.s.station h.stamp
              (sym from.4 ∙ ap (λ (p : Port). p.cable) own_port) h.of;
          j = pk.j;
          d = tell.0;
          d_at = pk.at;
          start = tell.1;
          far = tell.2;
        };
      }

  pub bright : AreBright i ok settled bounded seats stations ground now w
  bright k a b ea eb n x ex =
      let g = ground k (RouterMember a) ea in
      let like = through.alike k (RouterMember a) (RouterMember b) ea eb in
      elim (cases_Bool (is_direct x)) [
        | inl direct ↦
            inl (λ c ec far.
            let m = (like.1 g.x g.x_at).each n x c ex ec in
            absurd (true≢false (sym direct ∙ (m.direct ∙ far))))
        | inr indirect ↦ inr (promised k a ea n x (next_tells i ok settled bounded k n g.x x g.x_at ex indirect))
      ]
