-- Stations put out AARP frames for AARP frames alone: for a datagram, for an operation, and, once they have settled, in a tick
-- they put out none.
use Rattle.std.proofs.Common.{◌≡◌, ℕ, ◌+◌, ◌&&◌, Bool, true, false, cond, List, [], ◌∷◌, ◌++◌, Option, Some, None, Result, Ok, Err, refl, sym, ap, ◌∙◌}
use Rattle.std.proofs.Common.{subst, slice_get, map, length}
use Rattle.std.specs.Prelude.{position}
use Rattle.std.specs.List.{flat_map, AllByRecursion as Each}
use Rattle.aarp.specs.Choosing.{Choice, settled as settled_of}
use Rattle.at_base.specs.Range.{is_between}
use Rattle.at_base.specs.Spelling.{bytes_of}
use Rattle.at_base.specs.Text.{is_name}
use Rattle.at_base.specs.declared.address.Addr.{Addr}
use Rattle.at_base.specs.declared.error.Error.{Error}
use Rattle.atp.specs.Repeating.{repeats}
use Rattle.atp.specs.declared.repeats.Repeat.{Repeat}
use Rattle.atp.specs.declared.request.Request.{Request as Held}
use Rattle.atp.specs.declared.transaction.Transaction.{Transaction}
use Rattle.cable_model.proofs.Counting.{each-append}
use Rattle.ddp.specs.Datagram.{Datagram}
use Rattle.end_node.specs.Answers as node_answers
use Rattle.end_node.specs.Asking.{asking}
use Rattle.end_node.specs.Holding.{NodeHolding}
use Rattle.end_node.specs.Lookups as lookups
use Rattle.end_node.specs.Repeating.{repeated, repeats_by}
use Rattle.end_node.specs.Sending.{header_to, sending}
use Rattle.internet_file.specs.declared.action.Do.{Do}
use Rattle.internet_file.specs.declared.action.Do.TheVariants as action
use Rattle.lasting.proofs.Honest.{IsUnwired}
use Rattle.lasting.proofs.Routers.{ticks}
use Rattle.live_node.specs.Living.{LivingNode, LiveHears as NodeHears}
use Rattle.live_node.specs.Ticking.{LiveTicks as NodeTicks, asked_from, asks as asks_in, choice_after, questions, sent_live}
use Rattle.live_router.proofs.Settled.{AreSettled}
use Rattle.live_router.specs.Living.{Living, LiveHears as RouterHears}
use Rattle.live_router.specs.Ticking.{LiveTicks as RouterTicks, all_queries, data_by, data_from, data_way, packets_for, query_from}
use Rattle.nbp.specs.Expansion.{asks}
use Rattle.nbp.specs.Packets.{NbpPacket, names_in}
use Rattle.nbp.specs.declared.expansion.Ask.{Ask}
use Rattle.nbp.specs.declared.expansion.Ask.TheVariants as ask
use Rattle.nbp.specs.declared.packet.Function.{Function}
use Rattle.nbp.specs.declared.packet.Function.TheVariants.{BroadcastRequest, Lookup, Reply, ForwardRequest}
use Rattle.nbp.specs.declared.tuple.Tuple.{Tuple}
use Rattle.router.specs.Answers as router_answers
use Rattle.router.specs.Forwarding.{course, fate}
use Rattle.router.specs.Holding.{Holding, own_at}
use Rattle.router.specs.Requests.{asked, looked_on, made_by, made_of, ranges, requests_made}
use Rattle.router.specs.Zones.{told_by, zones_told}
use Rattle.router.specs.declared.course.Ending.{Ending}
use Rattle.router.specs.declared.course.Step.{Step}
use Rattle.router.specs.declared.course.Step.TheVariants as step
use Rattle.router.specs.declared.request.Request.{Request}
use Rattle.rtmp.specs.Data.{RoutingData, routing_data}
use Rattle.learning.specs.declared.query.Query.{Query}
use Rattle.rtmp.specs.declared.row.Row.{Row as RouteRow}
use Rattle.station.specs.Hearing.{Hearing}
use Rattle.station.specs.Making.{all_made, made}
use Rattle.station.specs.Values.{datagram_at}
use Rattle.station.specs.Ways.{checks, is_summed, is_to, replying}
use Rattle.station.specs.declared.heard.Kind.TheVariants.{Ddp}
use Rattle.station.specs.declared.heard.Link.{Link}
use Rattle.station.specs.declared.member.Member.{Member}
use Rattle.station.specs.declared.member.Member.TheVariants.{Router as RouterMember, Node as NodeMember}
use Rattle.station.specs.declared.output.Output.{Output}
use Rattle.station.specs.declared.way.Way.{Way}
use Rattle.world.specs.Doing.{acted_by, put_by}
use Rattle.zip_zones.specs.Formats.{zones_in}
use Rattle.zip_zones.specs.declared.packet.Packet.{Packet as ZipPacket}
use Rattle.zip_zones.specs.declared.packet.Packet.TheVariants as zip

-- none of the outputs is an AARP frame
abbrev pub AreUnwired : List Output → Type 0
AreUnwired os = Each IsUnwired os

-- none of the datagrams on a way is
all_unwired : (w : Way) (payloads : List (List ℕ)) → AreUnwired (all_made w payloads)
all_unwired w [] = tt
all_unwired w (x ∷ xs) = (tt, all_unwired w xs)

-- nor any reply
replies_unwired : (w : Option Way) (payloads : List (List ℕ)) → AreUnwired (replying w payloads)
replies_unwired None payloads = tt
replies_unwired (Some w) payloads = all_unwired w payloads

-- either outputs
either_unwired : (b : Bool) (xs ys : List Output) → AreUnwired xs → AreUnwired ys → AreUnwired (cond b xs ys)
either_unwired true xs ys x y = x
either_unwired false xs ys x y = y

-- ---- A router that hears a datagram

module _ (h : Holding) where
  -- a lookup or a forward request
  asked_unwired : (r : Request) (a : Ask) → AreUnwired (asked h r a)
  asked_unwired r (ask.Lookup q) = replies_unwired _ _
  asked_unwired r (ask.Forward net) = replies_unwired _ _

  -- several of them
  all_asked : (r : Request) (left : List Ask) → AreUnwired (flat_map (asked h r) left)
  all_asked r [] = tt
  all_asked r (a ∷ left) = each-append IsUnwired (asked h r a) (flat_map (asked h r) left) (asked_unwired r a) (all_asked r left)

  -- a lookup on a port, if there is one
  on_unwired : (r : Request) (o : Option ℕ) → AreUnwired (looked_on h r o)
  on_unwired r None = tt
  on_unwired r (Some q) = replies_unwired _ _

  -- what is made of a request for names
  of_unwired : (f : Function) (r : Request) (net : ℕ) → AreUnwired (made_of h f r net)
  of_unwired BroadcastRequest r net = all_asked r (asks (ranges h.ports) r.tuple.zone h.zones)
  of_unwired ForwardRequest r net =
      either_unwired (is_name r.tuple.zone) _ [] (on_unwired r (position (λ c. is_between c.range.start c.range.end net) h.ports)) tt
  of_unwired Lookup r net = tt
  of_unwired Reply r net = tt

  -- of its tuples
  by_tuple : (d : Datagram) (p : NbpPacket) (ts : List Tuple) → AreUnwired (made_by h d p ts)
  by_tuple d p [] = tt
  by_tuple d p (t ∷ ts) = of_unwired p.function _ d.target.net

  -- of a packet of names, if there is one
  requests_unwired : (d : Datagram) (o : Option NbpPacket) → AreUnwired (requests_made h d o)
  requests_unwired d None = tt
  requests_unwired d (Some p) = by_tuple d p p.tuples

  -- an answer about the zones of a cable
  told_unwired : (q : ℕ) (d : Datagram) (zone : List ℕ) (o : Option Choice) → AreUnwired (told_by h q d zone o)
  told_unwired q d zone None = tt
  told_unwired q d zone (Some c) = replies_unwired _ _

  -- answers to ZIP packets
  zones_unwired : (q : ℕ) (d : Datagram) (o : Option ZipPacket) → AreUnwired (zones_told h q d o)
  zones_unwired q d None = tt
  zones_unwired q d (Some (zip.Query nets)) = replies_unwired _ _
  zones_unwired q d (Some (zip.GetNetInfo unused zone)) = told_unwired q d zone (slice_get h.ports q)
  zones_unwired q d (Some (zip.Reply count entries)) = tt
  zones_unwired q d (Some (zip.NetInfoReply info)) = tt
  zones_unwired q d (Some (zip.ExtendedReply total entries)) = tt

  -- what a router makes for a datagram
  served_unwired : (e : Ending) (d : Datagram) → AreUnwired (router_answers.served h e d)
  served_unwired e d =
      either_unwired (is_to 4 4 d) _ _ (replies_unwired _ _)
      (either_unwired (is_to 2 2 d) _ _ (either_unwired e.is_own _ [] (requests_unwired d (names_in d.payload)) tt)
      (either_unwired (is_to 6 6 d) _ [] (zones_unwired e.port d (zones_in d.payload)) tt))

  -- and for a transaction
  made_for_unwired : (e : Ending) (d : Datagram) → AreUnwired (router_answers.made_for h e d)
  made_for_unwired e d = either_unwired (is_to 3 6 d) _ _ (replies_unwired _ _) (served_unwired e d)

  -- and for a datagram that ended at it, if it did
  handled_unwired : (o : Option Ending) (d : Datagram) → AreUnwired (router_answers.handled h o d).0
  handled_unwired None d = tt
  handled_unwired (Some e) d = by (checks d)
    where
      by : (b : Bool)
          → AreUnwired (cond {A = List Output × List Held} b (router_answers.made_for h e d, router_answers.requests_after h d) ([], h.requests)).0
      by true = made_for_unwired e d
      by false = tt

  -- what becomes of the datagram itself
  fate_unwired : (o : Option Step) (d : Datagram) → AreUnwired (fate o d)
  fate_unwired None d = tt
  fate_unwired (Some (step.Pass q to)) d = (tt, tt)
  fate_unwired (Some (step.Keep q)) d = (tt, tt)
  fate_unwired (Some (step.Drop cause)) d = (tt, tt)

  -- all that a router puts out for a datagram
  datagram_unwired : (x : Hearing) (o : Option Datagram) → AreUnwired (router_answers.heard_datagram h x o).0
  datagram_unwired x None = tt
  datagram_unwired x (Some d) =
      let c = course h.ports h.routes x.port x.link d.hops d.target in
      each-append IsUnwired (fate c.step d) (router_answers.handled h c.ending d).0 (fate_unwired c.step d) (handled_unwired c.ending d)

-- a router puts out no AARP frame for a datagram
pub router_unwired : (l new : Living) (x : Hearing) (added : List Output) → x.kind ≡ Ddp → RouterHears l x added new → AreUnwired added
router_unwired l new x added ddp h =
    let outputs : added ≡ (router_answers.heard_kind x.kind l.router x).0 = ap (λ (r : List Output × Living). r.0) h in
    subst AreUnwired (sym (outputs ∙ ap (λ k. (router_answers.heard_kind k l.router x).0) ddp))
    (datagram_unwired l.router x (datagram_at x.bytes))

-- ---- A node that hears a datagram

module _ (h : NodeHolding) where
  -- replies to a lookup
  replies_of_unwired : (summed : Bool) (id : ℕ) (t : Tuple) (o : Option Addr) → AreUnwired (lookups.replies h summed id t o)
  replies_of_unwired summed id t None = tt
  replies_of_unwired summed id t (Some own) = replies_unwired _ _

  -- what is made of a tuple
  function_unwired : (summed : Bool) (id : ℕ) (t : Tuple) (f : Function) → AreUnwired (lookups.told_by h summed id t f)
  function_unwired summed id t BroadcastRequest = tt
  function_unwired summed id t Lookup =
      either_unwired (lookups.is_in h.zone t.zone) _ [] (replies_of_unwired summed id t (settled_of h.port)) tt
  function_unwired summed id t Reply = tt
  function_unwired summed id t ForwardRequest = tt

  -- of several
  tuples_unwired : (summed : Bool) (p : NbpPacket) (ts : List Tuple) → AreUnwired (lookups.told_of h summed p ts)
  tuples_unwired summed p [] = tt
  tuples_unwired summed p (t ∷ ts) = function_unwired summed p.id t p.function

  -- of a packet of names, if there is one
  names_unwired : (d : Datagram) (o : Option NbpPacket) → AreUnwired (lookups.told h d o)
  names_unwired d None = tt
  names_unwired d (Some p) = tuples_unwired (is_summed d) p p.tuples

  -- what a node makes for a datagram
  node_served : (d : Datagram) → AreUnwired (node_answers.served h d)
  node_served d =
      either_unwired (is_to 4 4 d) _ _ (replies_unwired _ _)
      (either_unwired (is_to 2 2 d) _ [] (names_unwired d (names_in d.payload)) tt)

  -- all that a node puts out for a datagram
  node_datagram : (l : Link) (o : Option Datagram) → AreUnwired (node_answers.heard_datagram h l o).0
  node_datagram l None = tt
  node_datagram l (Some d) = by (node_answers.takes h l d && checks d)
    where
      by : (b : Bool) → AreUnwired (cond b (node_answers.heard_own h d) ([], h)).0
      by true = node_served d
      by false = tt

-- a node puts out no AARP frame for a datagram
pub node_unwired : (old new : LivingNode) (x : Hearing) (added : List Output) → x.kind ≡ Ddp → NodeHears old x added new → AreUnwired added
node_unwired old new x added ddp h =
    let outputs : added ≡ (node_answers.heard_kind x.kind old.node x).0 = ap (λ (r : List Output × NodeHolding). r.0) h.answers.0 in
    subst AreUnwired (sym (outputs ∙ ap (λ k. (node_answers.heard_kind k old.node x).0) ddp))
    (node_datagram old.node x.link (datagram_at x.bytes))

-- ---- Ticks

-- routing data
data_unwired : (k : ℕ) (me : Addr) (ps : List RoutingData) → AreUnwired (map (λ p. made (data_way k me) (bytes_of routing_data p)) ps)
data_unwired k me [] = tt
data_unwired k me (p ∷ ps) = (tt, data_unwired k me ps)

-- routing data on each port
from_unwired : (k : ℕ) (cs : List Choice) (rows : List RouteRow) → AreUnwired (data_from k cs rows)
from_unwired k [] rows = tt
from_unwired k (c ∷ cs) rows = each-append IsUnwired _ (data_from (k + 1) cs rows) (by (settled_of c)) (from_unwired (k + 1) cs rows)
  where
    by : (o : Option Addr) → AreUnwired (data_by k c.range o rows)
    by None = tt
    by (Some me) = data_unwired k me (packets_for k c.range me rows)

-- queries for zone lists
queries_unwired : (ports : List Choice) (qs : List Query) → AreUnwired (all_queries ports qs)
queries_unwired ports [] = tt
queries_unwired ports (q ∷ qs) = each-append IsUnwired _ (all_queries ports qs) (by (own_at ports q.port)) (queries_unwired ports qs)
  where
    by : (o : Option Addr) → AreUnwired (query_from o q)
    by None = tt
    by (Some me) = (tt, tt)

-- a router whose ports have settled puts out no AARP frame in a tick
pub router_ticks : (l new : Living) (added : List Output) → AreSettled l.router.ports → RouterTicks l added new → AreUnwired added
router_ticks l new added settled h =
    let t = ticks l new added settled h in
    subst AreUnwired (sym t.sends)
    (either_unwired _ _ [] (each-append IsUnwired (data_from 0 new.router.ports new.router.routes) _ (from_unwired 0 new.router.ports new.router.routes)
    (queries_unwired new.router.ports _)) tt)

-- requests for zones
repeats_unwired : (own : Addr) (rs : List Repeat) → AreUnwired (map (repeated own) rs)
repeats_unwired own [] = tt
repeats_unwired own (r ∷ rs) = (tt, repeats_unwired own rs)

-- those that a tick makes due
slots_unwired : (own : Option Addr) (slots : List (Option Transaction)) → AreUnwired (repeats_by own slots)
slots_unwired None slots = tt
slots_unwired (Some own) slots = repeats_unwired own (repeats slots)

-- a request for what a node has to know of its cable
asked_once : (own : Option Addr) (zone : List ℕ) → AreUnwired (asked_from own zone)
asked_once None zone = tt
asked_once (Some me) zone = (tt, tt)

-- neither does a node
pub node_ticks : (old new : LivingNode) (added : List Output) → old.node.port.is_settled ≡ true → NodeTicks old added new → AreUnwired added
node_ticks old new added settled h =
    let own = settled_of (choice_after old) in
    let rest : AreUnwired (questions own old ++ repeats_by own old.node.asks.slots) =
    each-append IsUnwired (questions own old) (repeats_by own old.node.asks.slots) (either_unwired (asks_in own old) _ [] (asked_once own old.node.zone) tt)
    (slots_unwired own old.node.asks.slots) in
    subst AreUnwired (sym (h.sends ∙ silent own)) rest
  where
    silent : (own : Option Addr) → sent_live own old ≡ questions own old ++ repeats_by own old.node.asks.slots
    silent own = rw settled refl

-- ---- Operations

-- what an operation puts out
put_unwired : (data_by : Way → List ℕ) (r : Result Way Error) (os : List Output) → put_by data_by r ≡ Ok os → AreUnwired os
put_unwired data_by (Ok w) os e = let is : made w (data_by w) ∷ [] ≡ os = cc in subst AreUnwired is (tt, tt)
put_unwired data_by (Err x) os e = absurd cc

-- nor any station that carries out an operation
pub acted_unwired : (m : Member Living LivingNode) (a : Do) (os : List Output) → acted_by m a ≡ Ok os → AreUnwired os
acted_unwired (RouterMember l) a os e = let is : [] ≡ os = cc in subst AreUnwired is tt
acted_unwired (NodeMember n) (action.Send to socket source kind hex) os e =
    put_unwired (λ way. hex) (sending n.node (header_to to socket source kind false) (length hex)) os e
acted_unwired (NodeMember n) (action.Lookup id object kind zone) os e = put_unwired _ (asking n.node) os e
