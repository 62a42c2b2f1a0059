-- A station that has settled answers AARP packets with what is so.
use Rattle.std.proofs.Common.{◌≡◌, ℕ, ◌<◌, ◌&&◌, Bool, true, false, List, [], ◌∷◌, Option, Some, None, refl, sym, ap, ◌∙◌, subst}
use Rattle.std.proofs.Common.{slice_get, length, arith}
use Rattle.std.specs.Prelude.{if◌then◌else◌}
use Rattle.std.specs.List.{AllByRecursion as Each}
use Rattle.std.proofs.lemmas.Bool.{and_parts}
use Rattle.std.proofs.lemmas.Option.{same_Some}
use Rattle.aarp.specs.Choosing.{Choice, answer, wants}
use Rattle.aarp.specs.Packets.{Whole, packet, written}
use Rattle.aarp.specs.declared.packet.Function.TheVariants.{Response}
use Rattle.aarp.specs.declared.packet.Packet.{Packet}
use Rattle.at_base.specs.Address.{same_address}
use Rattle.at_base.specs.Spelling.{IsValue, bytes_of}
use Rattle.at_base.specs.declared.address.Addr.{Addr}
use Rattle.at_base.specs.declared.address.Hw.{Hw}
use Rattle.audit.proofs.WalkLists.{At}
use Rattle.cable_model.specs.Outcomes.{cable_of, heard_by}
use Rattle.cable_model.specs.Pending.{Pair}
use Rattle.cable_model.specs.declared.seat.Seat.{Seat}
use Rattle.end_node.specs.Answers as node_answers
use Rattle.end_node.specs.Holding.{NodeHolding}
use Rattle.lasting.proofs.Honest.{IsHonest, IsHonestAt, IsHonestOutput, unwired_honest}
use Rattle.lasting.proofs.Packed.{IsFitting, reads, response_value, size, whole_fits, written_size}
use Rattle.lasting.proofs.Stored.{same_is}
use Rattle.lasting.proofs.Unwired.{node_unwired, router_unwired}
use Rattle.live_cables.proofs.Pending.{Has}
use Rattle.live_node.specs.Living.{LivingNode, LiveHears as NodeHears}
use Rattle.live_router.specs.Living.{Living, LiveHears as RouterHears}
use Rattle.router.specs.Answers as router_answers
use Rattle.router.specs.Resolution.{resolved}
use Rattle.station.specs.Lawful.{AreLawful, IsGood, IsPacket}
use Rattle.station.specs.Members.{EitherHears}
use Rattle.station.specs.Resolution.{answer_by, packet_at, wired}
use Rattle.station.specs.declared.heard.Kind.{Kind}
use Rattle.station.specs.declared.heard.Kind.TheVariants.{Aarp, Ddp}
use Rattle.station.specs.declared.member.Member.{Member}
use Rattle.station.specs.declared.member.Member.TheVariants.{Router as RouterMember, Node as NodeMember}
use Rattle.station.specs.declared.output.Output.{Output}
use Rattle.station.specs.declared.output.Output.TheVariants as output

-- the ports of a station: a node has one
abbrev pub choices_in : Member Living LivingNode → List Choice
choices_in (RouterMember l) = l.router.ports
choices_in (NodeMember n) = n.node.port ∷ []

-- the response of a port to a packet
abbrev reply : Choice → Packet → Packet
reply c p = record { function = Response; source_hw = c.hw; source = c.tentative; target_hw = p.source_hw; target = p.source }

-- what a port answers is the response, to a packet for its address
replied : (c : Choice) (p sent : Packet) → answer c p ≡ Some sent → (sent ≡ reply c p) × (p.target ≡ c.tentative)
replied c p sent e = by (c.is_settled && wants p.function && same_address p.target c.tentative) refl e
  where
    by : (b : Bool) → (c.is_settled && wants p.function && same_address p.target c.tentative) ≡ b
        → (if b then Some (reply c p) else None) ≡ Some sent → (sent ≡ reply c p) × (p.target ≡ c.tentative)
    by true on f =
        (sym (same_Some (reply c p) sent f), same_is p.target c.tentative (and_parts (c.is_settled && wants p.function) (same_address p.target c.tentative) on).1)
    by false off f = absurd cc

module _ (Tells : ℕ → Addr → Hw → Type 0) where
  -- so the answer of a port that tells what is so is honest, if its bytes are those of a packet
  answer_honest : (cable : ℕ) (c : Choice) (w : Whole) (sent : Packet) → IsValue packet w → answer c w.packet ≡ Some sent
      → Tells cable c.tentative c.hw → IsPacket (bytes_of packet (written sent)) → IsHonestAt Tells cable (bytes_of packet (written sent))
  answer_honest cable c w sent v e told good =
      let r = replied c w.packet sent e in
      let fits = whole_fits w v in
      subst (λ (p : Packet). IsHonestAt Tells cable (bytes_of packet (written p))) (sym r.0)
      (honest fits r.1 (subst (λ (p : Packet). IsPacket (bytes_of packet (written p))) r.0 good))
    where
      honest : IsFitting w.packet → w.packet.target ≡ c.tentative → IsPacket (bytes_of packet (written (reply c w.packet)))
          → IsHonestAt Tells cable (bytes_of packet (written (reply c w.packet)))
      honest fits target made =
          let whole : length (bytes_of packet (written (reply c w.packet))) ≡ 28 = ap length made.spelled.1 ∙ size made.value made.spelled.0 in
          let parts = written_size (reply c w.packet) in
          let their_hw = fits.source_hw in
          let fit : IsFitting (reply c w.packet) = record {
            source_hw = omega (arith, whole, parts, their_hw);
            source_net = subst (λ (a : Addr). a.net < 65536) target fits.target_net;
            source_node = subst (λ (a : Addr). a.node < 256) target fits.target_node;
            target_hw = fits.source_hw;
            target_net = fits.source_net;
            target_node = fits.source_node;
          } in
          (written (reply c w.packet), (response_value (reply c w.packet) refl fit, refl), λ is. told)

  -- ---- Stations

  -- A station has these ports, and each seat on a cable tells what is so of the port there.
  module _ (seats : List Seat) (base : ℕ → List Choice)
      (speaks : (s : Seat) → Has seats s → (c : Choice) → At (base s.station) s.port c → Tells s.cable c.tentative c.hw)
      (found : (s : Seat) → Has seats s → cable_of seats s.station s.port ≡ s.cable)
      (lies : (s : Seat) → Has seats s → s.port < length (base s.station)) where
    -- the answer of the port of a seat
    wire_honest : (k ports : ℕ) (s : Seat) (c : Choice) (w : Whole) → Has seats s → s.station ≡ k → At (base k) s.port c → IsValue packet w
        → (o : Option Packet) → answer c w.packet ≡ o → AreLawful ports (wired s.port o) → Each (IsHonestOutput Tells seats k) (wired s.port o)
    wire_honest k ports s c w has station e v None is lawful = tt
    wire_honest k ports s c w has station e v (Some sent) is lawful =
        let here : At (base s.station) s.port c = subst (λ n. At (base n) s.port c) (sym station) e in
        let cable : cable_of seats k s.port ≡ s.cable = subst (λ n. cable_of seats n s.port ≡ s.cable) station (found s has) in
        let good : IsGood ports (output.Wire s.port sent.target_hw (bytes_of packet (written sent))) =
        lawful.each 0 (output.Wire 0 sent.target_hw []) (omega arith) in (
          answer_honest (cable_of seats k s.port) c w sent v is
              (subst (λ n. Tells n c.tentative c.hw) (sym cable) (speaks s has c here)) good.1,
          tt,
        )

    -- the outputs for an AARP packet of a router
    router_wires : (k ports : ℕ) (l : Living) (s : Seat) (w : Whole) → l.router.ports ≡ base k → Has seats s → s.station ≡ k → IsValue packet w
        → (o : Option Choice) → slice_get l.router.ports s.port ≡ o → AreLawful ports (wired s.port (answer_by w.packet o))
        → Each (IsHonestOutput Tells seats k) (wired s.port (answer_by w.packet o))
    router_wires k ports l s w same has station v None e lawful = tt
    router_wires k ports l s w same has station v (Some c) e lawful =
        wire_honest k ports s c w has station (subst (λ ps. At ps s.port c) same e) v (answer c w.packet) refl lawful

    -- what a station puts out for an honest frame is honest
    router_honest : (k ports : ℕ) (l after : Living) (p : Pair) (added : List Output) → l.router.ports ≡ base k → Has seats p.seat → p.seat.station ≡ k
        → IsHonest Tells p.frame → RouterHears l (heard_by p) added after → AreLawful ports added → Each (IsHonestOutput Tells seats k) added
    router_honest k ports l after p added same has station honest hears lawful = by p.frame.kind refl
      where
        by : (x : Kind) → p.frame.kind ≡ x → Each (IsHonestOutput Tells seats k) added
        by Ddp kind = unwired_honest Tells seats k added (router_unwired l after (heard_by p) added kind hears)
        by Aarp kind =
            let w = honest kind in
            let read : packet_at p.frame.bytes ≡ Some w.0.packet = reads p.frame.bytes w.0 w.1 in
            let is : added ≡ wired p.seat.port (answer_by w.0.packet (slice_get l.router.ports p.seat.port)) =
            ap (λ (r : List Output × Living). r.0) hears
            ∙ (ap (λ z. (router_answers.heard_kind z l.router (heard_by p)).0) kind
            ∙ ap (resolved l.router.ports p.seat.port) read) in
            subst (Each (IsHonestOutput Tells seats k)) (sym is)
            (router_wires k ports l p.seat w.0 same has station w.1.0 (slice_get l.router.ports p.seat.port) refl (subst (AreLawful ports) is lawful))

    -- so is what a node puts out
    node_honest : (k ports : ℕ) (n after : LivingNode) (p : Pair) (added : List Output) → (n.node.port ∷ []) ≡ base k → Has seats p.seat → p.seat.station ≡ k
        → IsHonest Tells p.frame → NodeHears n (heard_by p) added after → AreLawful ports added → Each (IsHonestOutput Tells seats k) added
    node_honest k ports n after p added same has station honest hears lawful = by p.frame.kind refl
      where
        only : p.seat.port ≡ 0
        only =
            let low = lies p.seat has in
            let one : length (base p.seat.station) ≡ 1 = ap (λ j. length (base j)) station ∙ ap length (sym same) in
            omega (arith, low, one)

        by : (x : Kind) → p.frame.kind ≡ x → Each (IsHonestOutput Tells seats k) added
        by Ddp kind = unwired_honest Tells seats k added (node_unwired n after (heard_by p) added kind hears)
        by Aarp kind =
            let w = honest kind in
            let read : packet_at p.frame.bytes ≡ Some w.0.packet = reads p.frame.bytes w.0 w.1 in
            let is : added ≡ wired p.seat.port (answer n.node.port w.0.packet) =
            ap (λ (r : List Output × NodeHolding). r.0) hears.answers.0
            ∙ (ap (λ z. (node_answers.heard_kind z n.node (heard_by p)).0) kind
            ∙ (ap (λ o. (node_answers.heard_packet n.node o).0) read
            ∙ ap (λ q. wired q (answer n.node.port w.0.packet)) (sym only))) in
            let here : At (base k) p.seat.port n.node.port = subst (λ q. At (base k) q n.node.port) (sym only) (ap (λ l. slice_get l 0) (sym same)) in
            subst (Each (IsHonestOutput Tells seats k)) (sym is)
            (wire_honest k ports p.seat n.node.port w.0 has station here w.1.0 (answer n.node.port w.0.packet) refl (subst (AreLawful ports) is lawful))

    pub station_honest : (k ports : ℕ) (m after : Member Living LivingNode) (p : Pair) (added : List Output) → choices_in m ≡ base k → Has seats p.seat
        → p.seat.station ≡ k → IsHonest Tells p.frame → EitherHears RouterHears NodeHears m (heard_by p) added after → AreLawful ports added
        → Each (IsHonestOutput Tells seats k) added
    station_honest k ports (RouterMember l) (RouterMember l2) p added same has station honest hears lawful =
        router_honest k ports l l2 p added same has station honest hears lawful
    station_honest k ports (NodeMember a) (NodeMember b) p added same has station honest hears lawful =
        node_honest k ports a b p added same has station honest hears lawful
    station_honest k ports (RouterMember l) (NodeMember b) p added same has station honest hears lawful = absurd hears
    station_honest k ports (NodeMember a) (RouterMember l) p added same has station honest hears lawful = absurd hears
