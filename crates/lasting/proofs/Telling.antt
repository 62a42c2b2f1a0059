-- Frames with routing data of a router whose rows may have moved, as they are sent, and as they are read.
use Rattle.std.proofs.Common.{◌≡◌, ℕ, suc, ◌*◌, ◌<◌, ◌≤◌, ◌==◌, Bool, true, false, ◌||◌, List, [], ◌∷◌}
use Rattle.std.proofs.Common.{Option, Some, None, refl, sym, ap, ◌∙◌, subst, arith, slice_get, nat_lt, length, map, take, drop, append-nil, cond}
use Rattle.std.proofs.lemmas.Bool.{and_parts, leb-true, ltb-false, not-false, or_parts}
use Rattle.at_base.proofs.Ranges.{ends_of}
use Rattle.at_base.proofs.Readers.{begins_read, spelled_begins}
use Rattle.at_base.specs.Multicast.{all_hw}
use Rattle.at_base.specs.Packets.{packets}
use Rattle.at_base.specs.Range.{Span, is_between, is_range}
use Rattle.at_base.specs.Reading.{value_of}
use Rattle.at_base.specs.Spelling.{Begins, IsValue, Spells, bytes_of}
use Rattle.at_base.specs.declared.address.Addr.{Addr}
use Rattle.at_base.specs.declared.error.Place.TheVariants as place
use Rattle.audit.specs.Places.{on}
use Rattle.audit.specs.Rules.{Passes, bad_address, bad_cable, bad_port, end_before}
use Rattle.cable_model.specs.Transcript.{Frame}
use Rattle.ddp.proofs.Shape.{datagram_lawful}
use Rattle.ddp.proofs.Written.{Fitting, unsummed_value}
use Rattle.ddp.specs.Datagram.{Datagram, datagram}
use Rattle.lasting.specs.Hears.{data_datagram}
use Rattle.live_router.proofs.Short.{packet_short}
use Rattle.live_router.specs.Ticking.{data_way}
use Rattle.rtmp.proofs.Sent.{window_good}
use Rattle.rtmp.proofs.Spelled.{data_spelled}
use Rattle.rtmp.specs.Data.{RoutingData, data_of, routing_data, routing_in}
use Rattle.rtmp.specs.Sending.{IsPacket, own_tuple, packet_numbered, rows_sent, sent_tuple}
use Rattle.rtmp.specs.declared.request.Horizon.TheVariants.{Split}
use Rattle.rtmp.specs.declared.row.Row.{Row as RouteRow}
use Rattle.settled.proofs.Sent.{sent_in}
use Rattle.settled.specs.Exchange.{AreMovedRows}
use Rattle.station.specs.Values.{datagram_at}
use Rattle.station.specs.declared.heard.Kind.TheVariants.{Ddp}
use Rattle.table_image.specs.Internet.{Internet}
use Rattle.table_image.specs.declared.cable.Cable.{Cable}
use Rattle.table_image.specs.declared.port.Port.{Port}
use Rattle.table_image.specs.declared.router.Router.{Router}

-- Router s has port q on a cable of this range, with this address.
pub record IsTeller (i : Internet) (s q : ℕ) (range : Span) (me : Addr) : Type 0 where
  pub their : Router
  pub their_at : slice_get i.routers s ≡ Some their
  pub port : Port
  pub port_at : slice_get their.ports q ≡ Some port
  pub cable : Cable
  pub cable_at : slice_get i.cables port.cable ≡ Some cable
  pub spans : range ≡ record { start = cable.start; end = cable.end }
  pub address : port.address ≡ me

-- The frame has the routing data, numbered m, that a router sends on a port, of rows that its rows may be.
pub record IsToldOf (i : Internet) (f : Frame) : Type 0 where
  pub s : ℕ
  pub q : ℕ
  pub m : ℕ
  pub range : Span
  pub me : Addr
  pub teller : IsTeller i s q range me
  pub rows : List RouteRow
  pub moved : AreMovedRows i s teller.their rows
  pub packet : RoutingData
  pub sent : packet_numbered Split q range me m rows ≡ Some packet
  pub by : f.sender ≡ s
  pub on : f.cable ≡ teller.port.cable
  pub to : f.to ≡ all_hw
  pub kind : f.kind ≡ Ddp
  pub read : datagram_at f.bytes ≡ Some (data_datagram me packet)
  pub heard : routing_in (bytes_of routing_data packet) ≡ Some packet

-- bytes that spell a datagram are read as it
at_bytes : (bytes : List ℕ) (d : Datagram) → Spells datagram bytes d → datagram_at bytes ≡ Some d
unfolding datagram_at
at_bytes bytes d s =
    let b : Begins datagram bytes d = subst (λ (l : List ℕ). Begins datagram l d) (append-nil bytes) (spelled_begins datagram bytes [] d s) in
    ap value_of (begins_read packets datagram datagram_lawful bytes d b)

module _ (i : Internet) (ok : Passes i) (s q : ℕ) (range : Span) (me : Addr) (w : IsTeller i s q range me) where
  good_address : bad_address i w.port.cable w.port.address w.port.hardware ≡ false
  good_address =
      let bad : bad_port i s q w.their w.port ≡ false =
      sym (ap (λ o. on o (λ router. on (slice_get router.ports q) (bad_port i s q router))) w.their_at ∙ ap (λ o. on o (bad_port i s q w.their)) w.port_at)
      ∙ ok 2 (place.Port (suc s) (suc q)) in
      (or_parts _ _ (or_parts _ _ bad).0).0

  good_range : is_range range.start range.end ≡ true
  good_range =
      let bad : bad_cable (end_before i.cables w.port.cable) w.cable ≡ false =
      sym (ap (λ o. on o (bad_cable (end_before i.cables w.port.cable))) w.cable_at) ∙ ok 1 (place.Cable (suc w.port.cable)) in
      let valid : is_range w.cable.start w.cable.end ≡ true = not-false _ (or_parts _ _ (or_parts _ _ (or_parts _ _ bad).0).0).0 in
      ap (λ (z : Span). is_range z.start z.end) w.spans ∙ valid

  low_net : me.net < 65536
  low_net =
      let here : on (slice_get i.cables w.port.cable) (λ c. is_between c.start c.end w.port.address.net) ≡ true =
      not-false _ (or_parts _ _ (or_parts _ _ (or_parts _ _ good_address).0).0).0 in
      let between : is_between w.cable.start w.cable.end w.port.address.net ≡ true =
      sym (ap (λ o. on o (λ c. is_between c.start c.end w.port.address.net)) w.cable_at) ∙ here in
      let high : w.port.address.net ≤ w.cable.end = leb-true _ _ (and_parts _ _ between).1 in
      let ends = ends_of range.start range.end good_range in
      let same : range.end ≡ w.cable.end = ap (λ (z : Span). z.end) w.spans in
      let net : w.port.address.net ≡ me.net = ap (λ (a : Addr). a.net) w.address in
      omega (arith, high, ends, same, net)

  low_node : me.node < 256
  low_node =
      let high : w.port.address.node ≤ 253 = ltb-false 253 w.port.address.node (or_parts _ _ (or_parts _ _ good_address).0).1 in
      let node : w.port.address.node ≡ me.node = ap (λ (a : Addr). a.node) w.address in
      omega (arith, high, node)

  module _ (rows : List RouteRow) (moved : AreMovedRows i s w.their rows) (m : ℕ) (p : RoutingData)
      (sent : packet_numbered Split q range me m rows ≡ Some p) where
    data_is : p ≡ data_of me (own_tuple range ∷ map sent_tuple (take 96 (drop (m * 96) (rows_sent Split q rows))))
    data_is = by (m == 0 || nat_lt (m * 96) (length (rows_sent Split q rows))) sent
      where
        whole : RoutingData
        whole = data_of me (own_tuple range ∷ map sent_tuple (take 96 (drop (m * 96) (rows_sent Split q rows))))

        by : (b : Bool) → cond b (Some (data_of me (own_tuple range ∷ map sent_tuple (take 96 (drop (m * 96) (rows_sent Split q rows)))))) None ≡ Some p
            → p ≡ data_of me (own_tuple range ∷ map sent_tuple (take 96 (drop (m * 96) (rows_sent Split q rows))))
        by true e = cc
        by false e = cc

    spelled : Spells routing_data (bytes_of routing_data p) p
    spelled = (
      subst (λ (z : RoutingData). IsValue routing_data z) (sym data_is)
          (data_spelled me range (map sent_tuple (take 96 (drop (m * 96) (rows_sent Split q rows)))) low_net low_node good_range
          (window_good Split q (m * 96) rows moved.table.each)).0,
      refl,
    )

    short : length (bytes_of routing_data p) ≤ 586
    short =
        packet_short Split q range me m rows (Some (bytes_of routing_data p))
        (subst (λ (o : Option RoutingData). IsPacket o (Some (bytes_of routing_data p))) (sym sent) spelled)

    fitting : Fitting (data_way 0 me).header
    fitting = record {
      target_net = omega arith;
      source_net = low_net;
      target_node = omega arith;
      source_node = low_node;
      target_socket = omega arith;
      source_socket = omega arith;
      kind = omega arith;
    }

    -- what a router sends is read back
    pub read_back : (datagram_at (bytes_of datagram (data_datagram me p)) ≡ Some (data_datagram me p))
        × (routing_in (bytes_of routing_data p) ≡ Some p)
    read_back = (
      at_bytes (bytes_of datagram (data_datagram me p)) (data_datagram me p)
          (unsummed_value (data_way 0 me).header (bytes_of routing_data p) fitting short, refl),
      sym (sent_in (Some p) (bytes_of routing_data p) spelled),
    )

    -- routing data that a router sends is told of
    unfoldable pub telling : (cable sender stamp : ℕ) → cable ≡ w.port.cable → sender ≡ s
        → IsToldOf i (record { stamp = stamp; cable = cable; sender = sender; to = all_hw; kind = Ddp; bytes = bytes_of datagram (data_datagram me p) })
    telling cable sender stamp there by = record {
      s = s;
      q = q;
      m = m;
      range = range;
      me = me;
      teller = w;
      rows = rows;
      moved = moved;
      packet = p;
      sent = sent;
      by = by;
      on = there;
      to = refl;
      kind = refl;
      read = read_back.0;
      heard = read_back.1;
    }

-- the router of a packet is the one that sends it
pub router_of_data : (q : ℕ) (range : Span) (me : Addr) (m : ℕ) (rows : List RouteRow) (p : RoutingData)
    → packet_numbered Split q range me m rows ≡ Some p → p.router ≡ me
router_of_data q range me m rows p sent = by (m == 0 || nat_lt (m * 96) (length (rows_sent Split q rows))) sent
  where
    by : (b : Bool) → cond b (Some (data_of me (own_tuple range ∷ map sent_tuple (take 96 (drop (m * 96) (rows_sent Split q rows)))))) None ≡ Some p
        → p.router ≡ me
    by true e =
        let is : data_of me (own_tuple range ∷ map sent_tuple (take 96 (drop (m * 96) (rows_sent Split q rows)))) ≡ p = cc in
        ap (λ (z : RoutingData). z.router) (sym is)
    by false e = cc
