-- What stations make of plain datagrams is plain.
use Rattle.std.proofs.Common.{◌≡◌, ℕ, ◌+◌, Bool, true, false, cond, List, [], ◌∷◌}
use Rattle.std.proofs.Common.{Option, Some, None, refl, slice_get}
use Rattle.std.specs.Prelude.{position}
use Rattle.std.specs.List.{flat_map, AllByRecursion as Each}
use Rattle.aarp.specs.Choosing.{Choice}
use Rattle.aarp.specs.declared.packet.Packet.{Packet}
use Rattle.at_base.specs.Range.{is_between}
use Rattle.at_base.specs.Text.{is_name}
use Rattle.at_base.specs.declared.address.Addr.{Addr}
use Rattle.atp.specs.declared.request.Request.{Request as Held}
use Rattle.cable_model.proofs.Counting.{each-append}
use Rattle.ddp.specs.Datagram.{Datagram}
use Rattle.ddp.specs.declared.header.Header.{Header}
use Rattle.lasting.proofs.Plainly.{IsPlainWay, either_plain, from_plain, maybe_plain, plain_kind, read_plain, replying_plain, two, wired_plain}
use Rattle.lasting.proofs.Typed.{onward_kind}
use Rattle.lasting.specs.Plain.{IsPlain, IsPlainFrame, IsPlainKind, IsPlainOutput}
use Rattle.nbp.specs.Expansion.{asks}
use Rattle.nbp.specs.Packets.{NbpPacket, names_in}
use Rattle.nbp.specs.declared.expansion.Ask.{Ask}
use Rattle.nbp.specs.declared.expansion.Ask.TheVariants as ask
use Rattle.nbp.specs.declared.packet.Function.{Function}
use Rattle.nbp.specs.declared.packet.Function.TheVariants.{BroadcastRequest, Lookup, Reply, ForwardRequest}
use Rattle.nbp.specs.declared.tuple.Tuple.{Tuple}
use Rattle.router.specs.Answers.{handled, heard_datagram, heard_kind, made_for, requests_after, served}
use Rattle.router.specs.Forwarding.{course, fate}
use Rattle.router.specs.Holding.{Holding, hand, own_at}
use Rattle.router.specs.Requests.{asked, forward_way, lookup_way, looked_by, looked_on, made_by, made_of, every_node, ranges, request_header, requests_made}
use Rattle.router.specs.Resolution.{resolved}
use Rattle.router.specs.Ways.{is_answered, way_back, way_by}
use Rattle.router.specs.Zones.{info, info_way, told_by, zones_told}
use Rattle.router.specs.declared.course.Ending.{Ending}
use Rattle.router.specs.declared.course.Step.{Step}
use Rattle.router.specs.declared.course.Step.TheVariants as step
use Rattle.router.specs.declared.hand.Hand.{Hand}
use Rattle.router.specs.declared.hand.Hand.TheVariants.{Here, On, Nowhere}
use Rattle.router.specs.declared.request.Request.{Request}
use Rattle.station.specs.Hearing.{Hearing}
use Rattle.station.specs.Resolution.{answer_by, packet_at}
use Rattle.station.specs.Values.{datagram_at}
use Rattle.station.specs.Ways.{checks, is_to, reply_header, straight, way_from}
use Rattle.station.specs.declared.heard.Kind.{Kind}
use Rattle.station.specs.declared.heard.Kind.TheVariants.{Aarp, Ddp}
use Rattle.station.specs.declared.output.Next.TheVariants as next
use Rattle.station.specs.declared.output.Output.{Output}
use Rattle.zip_zones.specs.Formats.{zones_in}
use Rattle.zip_zones.specs.declared.packet.Packet.{Packet as ZipPacket}
use Rattle.zip_zones.specs.declared.packet.Packet.TheVariants as zip

-- ---- A router

by_plain : (h : Hand) (source : ℕ → Option Addr) (header : Header) → IsPlainKind header.kind → IsPlainWay (way_by h source header)
by_plain Nowhere source header p = tt
by_plain (Here q) source header p = from_plain (source q) q _ header p
by_plain (On q a) source header p = from_plain (source q) q _ header p

module _ (h : Holding) where
  back_plain : (q : ℕ) (d : Datagram) → IsPlainKind d.kind → IsPlainWay (way_back h q d)
  back_plain q d p =
      maybe_plain (is_answered h.ports d.source) _ (by_plain (hand h.routes d.source.net) (λ leaving. own_at h.ports q) (reply_header d d.source) p)

  looked_plain : (r : Request) (q : ℕ) → Each IsPlainOutput (looked_by h r q)
  looked_plain r q = replying_plain (lookup_way h r q) _ (from_plain (own_at h.ports q) q _ (request_header r _) two)

  asked_plain : (r : Request) (a : Ask) → Each IsPlainOutput (asked h r a)
  asked_plain r (ask.Lookup q) = looked_plain r q
  asked_plain r (ask.Forward net) = replying_plain (forward_way h r net) _ (by_plain (hand h.routes net) (own_at h.ports) (request_header r _) two)

  all_asked : (r : Request) (asks_left : List Ask) → Each IsPlainOutput (flat_map (asked h r) asks_left)
  all_asked r [] = tt
  all_asked r (a ∷ asks_left) = each-append IsPlainOutput (asked h r a) (flat_map (asked h r) asks_left) (asked_plain r a) (all_asked r asks_left)

  on_plain : (r : Request) (o : Option ℕ) → Each IsPlainOutput (looked_on h r o)
  on_plain r None = tt
  on_plain r (Some q) = looked_plain r q

  of_plain : (f : Function) (r : Request) (net : ℕ) → Each IsPlainOutput (made_of h f r net)
  of_plain BroadcastRequest r net = all_asked r (asks (ranges h.ports) r.tuple.zone h.zones)
  of_plain ForwardRequest r net =
      either_plain (is_name r.tuple.zone) _ [] (on_plain r (position (λ c. is_between c.range.start c.range.end net) h.ports)) tt
  of_plain Lookup r net = tt
  of_plain Reply r net = tt

  by_tuple : (d : Datagram) (p : NbpPacket) (ts : List Tuple) → Each IsPlainOutput (made_by h d p ts)
  by_tuple d p [] = tt
  by_tuple d p (t ∷ ts) = of_plain p.function _ d.target.net

  requests_plain : (d : Datagram) (o : Option NbpPacket) → Each IsPlainOutput (requests_made h d o)
  requests_plain d None = tt
  requests_plain d (Some p) = by_tuple d p p.tuples

  told_plain : (q : ℕ) (d : Datagram) (zone : List ℕ) (o : Option Choice) → IsPlainKind d.kind → Each IsPlainOutput (told_by h q d zone o)
  told_plain q d zone None p = tt
  told_plain q d zone (Some c) p =
      replying_plain (info_way h q c.range d) (info h c.range zone) (by (is_between c.range.start c.range.end d.source.net))
    where
      by : (b : Bool)
          → IsPlainWay (cond b (cond (is_answered h.ports d.source) (way_from (own_at h.ports q) q (straight d.source) (reply_header d d.source)) None)
          (way_from (own_at h.ports q) q next.All (reply_header d every_node)))
      by true = maybe_plain (is_answered h.ports d.source) _ (from_plain (own_at h.ports q) q (straight d.source) (reply_header d d.source) p)
      by false = from_plain (own_at h.ports q) q next.All (reply_header d every_node) p

  zones_plain : (q : ℕ) (d : Datagram) (o : Option ZipPacket) → IsPlainKind d.kind → Each IsPlainOutput (zones_told h q d o)
  zones_plain q d None p = tt
  zones_plain q d (Some (zip.Query nets)) p = replying_plain (way_back h q d) _ (back_plain q d p)
  zones_plain q d (Some (zip.GetNetInfo unused zone)) p = told_plain q d zone (slice_get h.ports q) p
  zones_plain q d (Some (zip.Reply count entries)) p = tt
  zones_plain q d (Some (zip.NetInfoReply info)) p = tt
  zones_plain q d (Some (zip.ExtendedReply total entries)) p = tt

  served_plain : (e : Ending) (d : Datagram) → IsPlainKind d.kind → Each IsPlainOutput (served h e d)
  served_plain e d p =
      either_plain (is_to 4 4 d) _ _ (replying_plain (way_back h e.port d) _ (back_plain e.port d p))
      (either_plain (is_to 2 2 d) _ _ (either_plain e.is_own _ [] (requests_plain d (names_in d.payload)) tt)
      (either_plain (is_to 6 6 d) _ [] (zones_plain e.port d (zones_in d.payload) p) tt))

  made_for_plain : (e : Ending) (d : Datagram) → IsPlainKind d.kind → Each IsPlainOutput (made_for h e d)
  made_for_plain e d p =
      either_plain (is_to 3 6 d) _ _ (replying_plain (way_back h e.port d) _ (back_plain e.port d p)) (served_plain e d p)

  handled_plain : (o : Option Ending) (d : Datagram) → IsPlainKind d.kind → Each IsPlainOutput (handled h o d).0
  handled_plain None d p = tt
  handled_plain (Some e) d p = by (checks d)
    where
      by : (b : Bool) → Each IsPlainOutput (cond {A = List Output × List Held} b (made_for h e d, requests_after h d) ([], h.requests)).0
      by true = made_for_plain e d p
      by false = tt

  fate_plain : (o : Option Step) (d : Datagram) → IsPlainKind d.kind → Each IsPlainOutput (fate o d)
  fate_plain None d p = tt
  fate_plain (Some (step.Pass q to)) d p = (plain_kind _ d.kind (onward_kind (d.hops + 1) d) p, tt)
  fate_plain (Some (step.Keep q)) d p = (tt, tt)
  fate_plain (Some (step.Drop cause)) d p = (tt, tt)

  datagram_plain : (x : Hearing) (o : Option Datagram) → datagram_at x.bytes ≡ o → IsPlain x.bytes
      → Each IsPlainOutput (heard_datagram h x o).0
  datagram_plain x None e p = tt
  datagram_plain x (Some d) e p =
      let kind = read_plain x.bytes d p e in
      let c = course h.ports h.routes x.port x.link d.hops d.target in
      each-append IsPlainOutput (fate c.step d) (handled h c.ending d).0 (fate_plain c.step d kind) (handled_plain c.ending d kind)

  pub packet_plain : (x : Hearing) (o : Option Packet) → Each IsPlainOutput (resolved h.ports x.port o)
  packet_plain x None = tt
  packet_plain x (Some sent) = wired_plain x.port (answer_by sent (slice_get h.ports x.port))

-- the outputs of a router for a plain frame are plain
pub router_plain : (h : Holding) (x : Hearing) → (k : Kind) → IsPlainFrame k x.bytes
    → Each IsPlainOutput (heard_kind k h x).0
router_plain h x Ddp p = datagram_plain h x (datagram_at x.bytes) refl p
router_plain h x Aarp p = packet_plain h x (packet_at x.bytes)
