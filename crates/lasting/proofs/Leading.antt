-- What a router puts out for a station goes by a port in whose cable's range the station's network is.
use Rattle.std.proofs.Common.{◌≡◌, ℕ, ◌≤◌, ◌==◌, ◌||◌, Bool, true, false, cond, List, [], ◌∷◌, Option, Some, None}
use Rattle.std.proofs.Common.{refl, subst, slice_get}
use Rattle.std.specs.Prelude.{position}
use Rattle.std.specs.List.{flat_map, AllByRecursion as Each}
use Rattle.aarp.specs.Choosing.{Choice}
use Rattle.aarp.specs.declared.packet.Packet.{Packet}
use Rattle.at_base.specs.Range.{Span, is_between}
use Rattle.at_base.specs.Text.{is_name}
use Rattle.at_base.specs.declared.address.Addr.{Addr}
use Rattle.atp.specs.declared.request.Request.{Request as Held}
use Rattle.audit.proofs.WalkLists.{At, at_one}
use Rattle.cable_model.proofs.Counting.{each-append}
use Rattle.ddp.specs.Datagram.{Datagram}
use Rattle.ddp.specs.declared.header.Header.{Header}
use Rattle.lasting.proofs.Images.{mapped}
use Rattle.lasting.proofs.Ranges.{ranges_of}
use Rattle.lasting.proofs.Rightly.{AreRight, HandsRightly, IsIn, hand_right}
use Rattle.nbp.specs.Expansion.{asks}
use Rattle.nbp.specs.Packets.{NbpPacket, names_in}
use Rattle.nbp.specs.declared.expansion.Ask.{Ask}
use Rattle.nbp.specs.declared.expansion.Ask.TheVariants as ask
use Rattle.nbp.specs.declared.packet.Function.{Function}
use Rattle.nbp.specs.declared.packet.Function.TheVariants.{BroadcastRequest, Lookup, Reply, ForwardRequest}
use Rattle.nbp.specs.declared.tuple.Tuple.{Tuple}
use Rattle.router.specs.Answers.{handled, heard_datagram, heard_kind, made_for, requests_after, served}
use Rattle.router.specs.Forwarding.{arrived, course, course_by, ended, ends_at_once, fate, goes, handed_on, heard_as}
use Rattle.router.specs.Holding.{Holding, hand, own_at}
use Rattle.router.specs.Requests.{any_router, asked, forward_way, lookup_way, looked_by, looked_on, made_by, made_of, every_node, ranges, request_header, requests_made}
use Rattle.router.specs.Resolution.{resolved}
use Rattle.router.specs.Ways.{is_answered, way_back, way_by}
use Rattle.router.specs.Zones.{info, info_way, told_by, zones_told}
use Rattle.router.specs.declared.course.Course.{Course}
use Rattle.router.specs.declared.course.Ending.{Ending}
use Rattle.router.specs.declared.course.Step.{Step}
use Rattle.router.specs.declared.course.Step.TheVariants as step
use Rattle.router.specs.declared.hand.Hand.{Hand}
use Rattle.router.specs.declared.hand.Hand.TheVariants.{Here, On, Nowhere}
use Rattle.router.specs.declared.request.Request.{Request}
use Rattle.station.specs.Hearing.{Hearing}
use Rattle.station.specs.Making.{all_made}
use Rattle.station.specs.Ports.{has}
use Rattle.station.specs.Resolution.{answer_by, packet_at, wired}
use Rattle.station.specs.Values.{datagram_at}
use Rattle.station.specs.Ways.{checks, is_to, reply_header, replying, straight, way_from}
use Rattle.station.specs.declared.heard.Kind.{Kind}
use Rattle.station.specs.declared.heard.Kind.TheVariants.{Aarp, Ddp}
use Rattle.station.specs.declared.heard.Link.{Link}
use Rattle.station.specs.declared.output.DropCause.TheVariants.{HopLimit}
use Rattle.station.specs.declared.output.Next.{Next}
use Rattle.station.specs.declared.output.Next.TheVariants as next
use Rattle.station.specs.declared.output.Output.{Output}
use Rattle.station.specs.declared.output.Output.TheVariants as output
use Rattle.station.specs.declared.way.Way.{Way}
use Rattle.zip_zones.specs.Formats.{zones_in}
use Rattle.zip_zones.specs.declared.packet.Packet.{Packet as ZipPacket}
use Rattle.zip_zones.specs.declared.packet.Packet.TheVariants as zip

-- a station that is next, by a port, is in the range of the port's cable, if this is one of these ranges
abbrev pub IsNextIn : List Span → ℕ → Next → Type 0
IsNextIn rs q (next.Station a) = (range : Span) → At rs q range → IsIn range a.net
IsNextIn rs q next.All = Unit {0}
IsNextIn rs q (next.Group g) = Unit {0}

-- an output goes to what is next so
abbrev pub GoesIn : List Span → Output → Type 0
GoesIn rs (output.Made port to bytes) = IsNextIn rs port to
GoesIn rs (output.Passed port to bytes) = IsNextIn rs port to
GoesIn rs (output.Kept port bytes) = Unit {0}
GoesIn rs (output.Dropped cause bytes) = Unit {0}
GoesIn rs (output.Wire port to bytes) = Unit {0}

-- a way leads so, if there is one
abbrev IsWayIn : List Span → Option Way → Type 0
IsWayIn rs None = Unit {0}
IsWayIn rs (Some w) = IsNextIn rs w.port w.next

-- a step leads so, if there is one
abbrev IsStepIn : List Span → Option Step → Type 0
IsStepIn rs None = Unit {0}
IsStepIn rs (Some (step.Pass q to)) = IsNextIn rs q to
IsStepIn rs (Some (step.Keep q)) = Unit {0}
IsStepIn rs (Some (step.Drop cause)) = Unit {0}

-- either outputs
either_goes : (rs : List Span) (b : Bool) (xs ys : List Output) → Each (GoesIn rs) xs → Each (GoesIn rs) ys → Each (GoesIn rs) (cond b xs ys)
either_goes rs true xs ys x y = x
either_goes rs false xs ys x y = y

-- a way by a port
from_in : (rs : List Span) (source : Option Addr) (q : ℕ) (to : Next) (header : Header) → IsNextIn rs q to → IsWayIn rs (way_from source q to header)
from_in rs None q to header p = tt
from_in rs (Some a) q to header p = p

-- a way that may be none
maybe_in : (rs : List Span) (b : Bool) (w : Option Way) → IsWayIn rs w → IsWayIn rs (cond b w None)
maybe_in rs true w p = p
maybe_in rs false w p = tt

-- replies on a way
replying_in : (rs : List Span) (w : Option Way) (payloads : List (List ℕ)) → IsWayIn rs w → Each (GoesIn rs) (replying w payloads)
replying_in rs None payloads p = tt
replying_in rs (Some w) payloads p = all payloads
  where
    all : (payloads : List (List ℕ)) → Each (GoesIn rs) (all_made w payloads)
    all [] = tt
    all (x ∷ xs) = (p, all xs)

-- what is next of an address on the cable
straight_in : (rs : List Span) (q : ℕ) (a : Addr) → ((range : Span) → At rs q range → IsIn range a.net) → IsNextIn rs q (straight a)
straight_in rs q a p = by (a.node == 255)
  where
    by : (b : Bool) → IsNextIn rs q (cond b next.All (next.Station a))
    by true = tt
    by false = p

-- a way by a hand
by_in : (rs : List Span) (h : Hand) (source : ℕ → Option Addr) (header : Header) → HandsRightly rs header.target.net h
    → IsWayIn rs (way_by h source header)
by_in rs Nowhere source header p = tt
by_in rs (Here q) source header p = from_in rs (source q) q (straight header.target) header (straight_in rs q header.target p)
by_in rs (On q a) source header p = from_in rs (source q) q (next.Station a) header p

-- AARP frames go to no station by its network
wired_in : (rs : List Span) (q : ℕ) (o : Option Packet) → Each (GoesIn rs) (wired q o)
wired_in rs q None = tt
wired_in rs q (Some p) = (tt, tt)

-- ---- The course of a datagram

module _ (rs : List Span) (ports : List Choice) where
  -- a datagram whose network is on the port's cable
  arrived_in : (q hops : ℕ) (target : Addr) → ((range : Span) → At rs q range → IsIn range target.net) → IsStepIn rs (arrived ports q hops target).step
  arrived_in q hops target p = by (target.node == 0 || has target (own_at ports q)) (hops == 15) (target.node == 255)
    where
      by : (a b c : Bool)
          → IsStepIn rs (cond {A = Course} a (record { step = Some (step.Keep q); ending = ended q true })
          (cond b (goes (step.Drop HopLimit))
          (cond c (record { step = Some (step.Pass q next.All); ending = ended q false })
          (goes (step.Pass q (next.Station target)))))).step
      by true b c = tt
      by false true c = tt
      by false false true = tt
      by false false false = p

  -- a datagram that is handed on
  handed_in : (q : ℕ) (a : Addr) (hops : ℕ) → ((range : Span) → At rs q range → IsIn range a.net) → IsStepIn rs (handed_on q a hops).step
  handed_in q a hops p = by (hops == 15)
    where
      by : (b : Bool) → IsStepIn rs (cond {A = Course} b (goes (step.Drop HopLimit)) (goes (step.Pass q (next.Station a)))).step
      by true = tt
      by false = p

  -- the step of a hand
  by_hand : (h : Hand) (hops : ℕ) (target : Addr) → HandsRightly rs target.net h → IsStepIn rs (course_by ports h hops target).step
  by_hand Nowhere hops target p = tt
  by_hand (Here q) hops target p = arrived_in q hops target p
  by_hand (On q a) hops target p = handed_in q a hops p

-- the output of a step
fate_in : (rs : List Span) (o : Option Step) (d : Datagram) → IsStepIn rs o → Each (GoesIn rs) (fate o d)
fate_in rs None d p = tt
fate_in rs (Some (step.Pass q to)) d p = (p, tt)
fate_in rs (Some (step.Keep q)) d p = (tt, tt)
fate_in rs (Some (step.Drop cause)) d p = (tt, tt)

-- ---- A router

module _ (h : Holding) (valid : (q : ℕ) (range : Span) → At (ranges_of h.ports) q range → 1 ≤ range.start)
    (right : AreRight (ranges_of h.ports) h.routes) where
  -- the hand for each network
  hands : (net : ℕ) → HandsRightly (ranges_of h.ports) net (hand h.routes net)
  hands net = hand_right (ranges_of h.ports) h.routes net valid right

  -- the way back
  back_in : (q : ℕ) (d : Datagram) → IsWayIn (ranges_of h.ports) (way_back h q d)
  back_in q d =
      maybe_in (ranges_of h.ports) (is_answered h.ports d.source) _
      (by_in (ranges_of h.ports) (hand h.routes d.source.net) (λ leaving. own_at h.ports q) (reply_header d d.source) (hands d.source.net))

  -- lookups
  looked_in : (r : Request) (q : ℕ) → Each (GoesIn (ranges_of h.ports)) (looked_by h r q)
  looked_in r q =
      replying_in (ranges_of h.ports) (lookup_way h r q) _
      (from_in (ranges_of h.ports) (own_at h.ports q) q (next.Group _) (request_header r every_node) tt)

  -- lookups and forward requests
  asked_in : (r : Request) (a : Ask) → Each (GoesIn (ranges_of h.ports)) (asked h r a)
  asked_in r (ask.Lookup q) = looked_in r q
  asked_in r (ask.Forward net) =
      replying_in (ranges_of h.ports) (forward_way h r net) _
      (by_in (ranges_of h.ports) (hand h.routes net) (own_at h.ports) (request_header r (any_router net)) (hands net))

  -- several of them
  all_asked : (r : Request) (left : List Ask) → Each (GoesIn (ranges_of h.ports)) (flat_map (asked h r) left)
  all_asked r [] = tt
  all_asked r (a ∷ left) = each-append (GoesIn (ranges_of h.ports)) (asked h r a) (flat_map (asked h r) left) (asked_in r a) (all_asked r left)

  -- a lookup on a port, if there is one
  on_in : (r : Request) (o : Option ℕ) → Each (GoesIn (ranges_of h.ports)) (looked_on h r o)
  on_in r None = tt
  on_in r (Some q) = looked_in r q

  -- what is made of a request for names
  of_in : (f : Function) (r : Request) (net : ℕ) → Each (GoesIn (ranges_of h.ports)) (made_of h f r net)
  of_in BroadcastRequest r net = all_asked r (asks (ranges h.ports) r.tuple.zone h.zones)
  of_in ForwardRequest r net =
      either_goes (ranges_of h.ports) (is_name r.tuple.zone) _ []
      (on_in r (position (λ c. is_between c.range.start c.range.end net) h.ports)) tt
  of_in Lookup r net = tt
  of_in Reply r net = tt

  -- what is made of its first tuple
  by_tuple : (d : Datagram) (p : NbpPacket) (ts : List Tuple) → Each (GoesIn (ranges_of h.ports)) (made_by h d p ts)
  by_tuple d p [] = tt
  by_tuple d p (t ∷ ts) = of_in p.function _ d.target.net

  -- what is made of its packet
  requests_in : (d : Datagram) (o : Option NbpPacket) → Each (GoesIn (ranges_of h.ports)) (requests_made h d o)
  requests_in d None = tt
  requests_in d (Some p) = by_tuple d p p.tuples

  -- replies about a cable
  told_in : (q : ℕ) (d : Datagram) (zone : List ℕ) (o : Option Choice) → slice_get h.ports q ≡ o → Each (GoesIn (ranges_of h.ports)) (told_by h q d zone o)
  told_in q d zone None e = tt
  told_in q d zone (Some c) e =
      replying_in (ranges_of h.ports) (info_way h q c.range d) (info h c.range zone) (by (is_between c.range.start c.range.end d.source.net) refl)
    where
      by : (b : Bool) → is_between c.range.start c.range.end d.source.net ≡ b
          → IsWayIn (ranges_of h.ports) (cond b (cond (is_answered h.ports d.source) (way_from (own_at h.ports q) q (straight d.source) (reply_header d d.source)) None)
          (way_from (own_at h.ports q) q next.All (reply_header d every_node)))
      by true on =
          maybe_in (ranges_of h.ports) (is_answered h.ports d.source) _
          (from_in (ranges_of h.ports) (own_at h.ports q) q (straight d.source) (reply_header d d.source)
          (straight_in (ranges_of h.ports) q d.source (λ range at.
          let is : c.range ≡ range = at_one (ranges_of h.ports) q c.range range (mapped (λ (c : Choice). c.range) h.ports q c e) at in
          subst (λ (z : Span). IsIn z d.source.net) is on)))
      by false off = from_in (ranges_of h.ports) (own_at h.ports q) q next.All (reply_header d every_node) tt

  -- replies about zones
  zones_in_range : (q : ℕ) (d : Datagram) (o : Option ZipPacket) → Each (GoesIn (ranges_of h.ports)) (zones_told h q d o)
  zones_in_range q d None = tt
  zones_in_range q d (Some (zip.Query nets)) = replying_in (ranges_of h.ports) (way_back h q d) _ (back_in q d)
  zones_in_range q d (Some (zip.GetNetInfo unused zone)) = told_in q d zone (slice_get h.ports q) refl
  zones_in_range q d (Some (zip.Reply count entries)) = tt
  zones_in_range q d (Some (zip.NetInfoReply info)) = tt
  zones_in_range q d (Some (zip.ExtendedReply total entries)) = tt

  -- what is made of a datagram by its type
  served_in : (e : Ending) (d : Datagram) → Each (GoesIn (ranges_of h.ports)) (served h e d)
  served_in e d =
      either_goes (ranges_of h.ports) (is_to 4 4 d) _ _ (replying_in (ranges_of h.ports) (way_back h e.port d) _ (back_in e.port d))
      (either_goes (ranges_of h.ports) (is_to 2 2 d) _ _ (either_goes (ranges_of h.ports) e.is_own _ [] (requests_in d (names_in d.payload)) tt)
      (either_goes (ranges_of h.ports) (is_to 6 6 d) _ [] (zones_in_range e.port d (zones_in d.payload)) tt))

  -- and of transactions
  made_for_in : (e : Ending) (d : Datagram) → Each (GoesIn (ranges_of h.ports)) (made_for h e d)
  made_for_in e d =
      either_goes (ranges_of h.ports) (is_to 3 6 d) _ _ (replying_in (ranges_of h.ports) (way_back h e.port d) _ (back_in e.port d)) (served_in e d)

  -- what is made of a datagram that ended at the router
  handled_in : (o : Option Ending) (d : Datagram) → Each (GoesIn (ranges_of h.ports)) (handled h o d).0
  handled_in None d = tt
  handled_in (Some e) d = by (checks d)
    where
      by : (b : Bool) → Each (GoesIn (ranges_of h.ports)) (cond {A = List Output × List Held} b (made_for h e d, requests_after h d) ([], h.requests)).0
      by true = made_for_in e d
      by false = tt

  -- the course of a datagram
  course_in : (p : ℕ) (l : Link) (hops : ℕ) (target : Addr) → IsStepIn (ranges_of h.ports) (course h.ports h.routes p l hops target).step
  course_in p l hops target = by (ends_at_once h.ports p l target)
    where
      by : (b : Bool)
          → IsStepIn (ranges_of h.ports) (cond {A = Course} b (record { step = None; ending = heard_as p l target })
          (course_by h.ports (hand h.routes target.net) hops target)).step
      by true = tt
      by false = by_hand (ranges_of h.ports) h.ports (hand h.routes target.net) hops target (hands target.net)

  -- what is put out for a datagram
  datagram_in : (x : Hearing) (o : Option Datagram) → Each (GoesIn (ranges_of h.ports)) (heard_datagram h x o).0
  datagram_in x None = tt
  datagram_in x (Some d) =
      let c = course h.ports h.routes x.port x.link d.hops d.target in
      each-append (GoesIn (ranges_of h.ports)) (fate c.step d) (handled h c.ending d).0
      (fate_in (ranges_of h.ports) c.step d (course_in x.port x.link d.hops d.target)) (handled_in c.ending d)

  -- what is put out for an AARP frame
  packet_in : (x : Hearing) (o : Option Packet) → Each (GoesIn (ranges_of h.ports)) (resolved h.ports x.port o)
  packet_in x None = tt
  packet_in x (Some sent) = wired_in (ranges_of h.ports) x.port (answer_by sent (slice_get h.ports x.port))

  -- what a router that hears a frame puts out
  pub heard_in : (x : Hearing) (k : Kind) → Each (GoesIn (ranges_of h.ports)) (heard_kind k h x).0
  heard_in x Ddp = datagram_in x (datagram_at x.bytes)
  heard_in x Aarp = packet_in x (packet_at x.bytes)
