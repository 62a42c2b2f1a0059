-- What a router passes on for an event.
use Rattle.std.proofs.Common.{◌≡◌, ◌⊎◌, inl, inr, ℕ, ◌+◌, ◌∙◌, Bool, true, false, cond, List, [], ◌∷◌, ◌++◌, Option, Some, None, ap, map, refl}
use Rattle.std.specs.Prelude.{option_map, option_to_list, position, slice_get}
use Rattle.std.specs.List.{flat_map}
use Rattle.std.proofs.lemmas.Grind.{flat_map-append}
use Rattle.std.proofs.lemmas.List.{append-nil}
use Rattle.aarp.specs.Choosing.{Choice, settled, ticked as choice_ticked}
use Rattle.aarp.specs.declared.packet.Packet.{Packet as AarpPacket}
use Rattle.at_base.specs.Range.{Span, is_between}
use Rattle.at_base.specs.Spelling.{bytes_of}
use Rattle.at_base.specs.Text.{is_name}
use Rattle.at_base.specs.declared.address.Addr.{Addr}
use Rattle.atp.specs.Answers.{bytes_of_all}
use Rattle.atp.specs.InPlace.{transaction_in}
use Rattle.atp.specs.declared.request.Request.{Request as AtpRequest}
use Rattle.cabled.specs.Acting.{Event, Tick, Heard}
use Rattle.cabled.specs.Asked.{answered, as_data, asked_by_datagram, asked_by_ending, asked_by_kind, packets_asked}
use Rattle.cabled.specs.Steps.{Running, answers_to, heard_on, hearing_of, link_at, outputs_for}
use Rattle.cabled.specs.declared.peers.Peers.{Peers}
use Rattle.cabled.specs.declared.peers.Peers.TheVariants.{Played, Real}
use Rattle.ddp.specs.Datagram.{Datagram}
use Rattle.echo.specs.Echo.{echo_reply}
use Rattle.ethertalk.specs.Frames.{Framed}
use Rattle.learning.specs.Queries.{queries_of}
use Rattle.learning.specs.declared.query.Query.{Query}
use Rattle.live_router.specs.Living.{Living}
use Rattle.live_router.specs.Ticking.{all_queries, data_by, data_from, data_way, packets_for, phase_after, probes, query_from, router_after, sent_by, ticked_live}
use Rattle.nbp.specs.Expansion.{asks}
use Rattle.nbp.specs.Packets.{NbpPacket, names_in}
use Rattle.nbp.specs.declared.expansion.Ask.{Ask}
use Rattle.nbp.specs.declared.expansion.Ask.TheVariants as ask
use Rattle.nbp.specs.declared.packet.Function.{Function}
use Rattle.nbp.specs.declared.packet.Function.TheVariants.{BroadcastRequest, Lookup, Reply, ForwardRequest}
use Rattle.nbp.specs.declared.tuple.Tuple.{Tuple}
use Rattle.port.specs.Ports.{Ported}
use Rattle.route_laws.specs.Carrying.{brought_by, one_hop_more, outputs_heard, passed_for, passed_in}
use Rattle.router.specs.Answers.{handled, heard_datagram, heard_kind, made_for, requests_after, served}
use Rattle.router.specs.Forwarding.{course, fate, onward}
use Rattle.router.specs.Holding.{Holding, own_at}
use Rattle.router.specs.Requests.{asked, forward_way, looked_on, looked_up, lookup_way, made_by, made_of, ranges, renamed, requests_made}
use Rattle.router.specs.Resolution.{resolved}
use Rattle.router.specs.Ways.{way_back}
use Rattle.router.specs.Zones.{info, info_way, told_by, transacted, zones_told}
use Rattle.router.specs.declared.course.Course.{Course}
use Rattle.router.specs.declared.course.Ending.{Ending}
use Rattle.router.specs.declared.course.Step.{Step}
use Rattle.router.specs.declared.course.Step.TheVariants as step
use Rattle.router.specs.declared.request.Request.{Request}
use Rattle.rtmp.specs.Data.{routing_data}
use Rattle.rtmp.specs.Requests.{request_in}
use Rattle.rtmp.specs.declared.request.Request.{Request as RoutesRequest}
use Rattle.rtmp.specs.declared.row.Row.{Row}
use Rattle.station.specs.Hearing.{Hearing}
use Rattle.station.specs.Making.{made}
use Rattle.station.specs.Resolution.{answer_by, packet_at, probed, wired}
use Rattle.station.specs.Values.{datagram_at}
use Rattle.station.specs.Ways.{checks, is_to, replying}
use Rattle.station.specs.declared.heard.Kind.{Kind}
use Rattle.station.specs.declared.heard.Kind.TheVariants.{Ddp, Aarp}
use Rattle.station.specs.declared.heard.Link.{Link}
use Rattle.station.specs.declared.output.Output.{Output}
use Rattle.station.specs.declared.way.Way.{Way}
use Rattle.zip_zones.specs.Answers.{replies}
use Rattle.zip_zones.specs.Formats.{packet as zip_packet, zones_in}
use Rattle.zip_zones.specs.declared.packet.Packet.{Packet}
use Rattle.zip_zones.specs.declared.packet.Packet.TheVariants as zip

-- ---- Outputs none of which is passed on

abbrev PassesNone : List Output → Type 0
PassesNone os = flat_map passed_in os ≡ []

none_both : (os qs : List Output) → PassesNone os → PassesNone qs → PassesNone (os ++ qs)
none_both os qs p q =
    flat_map-append passed_in os qs ∙ ap (λ (l : List (List ℕ)). l ++ flat_map passed_in qs) p ∙ q

none_mapped : {X : Type 0} (f : X → Output) (xs : List X) → ((x : X) → passed_in (f x) ≡ []) → PassesNone (map f xs)
none_mapped f [] h = refl
none_mapped f (x ∷ xs) h = rw (h x) (none_mapped f xs h)

none_flat : {X : Type 0} (f : X → List Output) (xs : List X) → ((x : X) → PassesNone (f x)) → PassesNone (flat_map f xs)
none_flat f [] h = refl
none_flat f (x ∷ xs) h = none_both (f x) (flat_map f xs) (h x) (none_flat f xs h)

none_of_two : (b : Bool) (os qs : List Output) → PassesNone os → PassesNone qs → PassesNone (cond b os qs)
none_of_two true os qs p q = p
none_of_two false os qs p q = q

replying_none : (w : Option Way) (payloads : List (List ℕ)) → PassesNone (replying w payloads)
replying_none None payloads = refl
replying_none (Some w) payloads = none_mapped (made w) payloads (λ x. refl)

-- ---- Requests for names

asked_none : (h : Holding) (r : Request) (a : Ask) → PassesNone (asked h r a)
asked_none h r (ask.Lookup q) = replying_none (lookup_way h r q) (renamed Lookup r ∷ [])
asked_none h r (ask.Forward net) = replying_none (forward_way h r net) (renamed ForwardRequest r ∷ [])

looked_none : (h : Holding) (r : Request) (q : Option ℕ) → PassesNone (looked_on h r q)
looked_none h r None = refl
looked_none h r (Some q) = replying_none (lookup_way h r q) (renamed Lookup r ∷ [])

made_of_none : (h : Holding) (f : Function) (r : Request) (net : ℕ) → PassesNone (made_of h f r net)
made_of_none h BroadcastRequest r net = none_flat (asked h r) (asks (ranges h.ports) r.tuple.zone h.zones) (asked_none h r)
made_of_none h ForwardRequest r net =
    none_of_two (is_name r.tuple.zone) (looked_up h r net) []
    (looked_none h r (position (λ c. is_between c.range.start c.range.end net) h.ports)) refl
made_of_none h Lookup r net = refl
made_of_none h Reply r net = refl

made_by_none : (h : Holding) (d : Datagram) (p : NbpPacket) (ts : List Tuple) → PassesNone (made_by h d p ts)
made_by_none h d p [] = refl
made_by_none h d p (t ∷ ts) = made_of_none h p.function _ d.target.net

requests_none : (h : Holding) (d : Datagram) (p : Option NbpPacket) → PassesNone (requests_made h d p)
requests_none h d None = refl
requests_none h d (Some p) = made_by_none h d p p.tuples

-- ---- Zones

told_by_none : (h : Holding) (q : ℕ) (d : Datagram) (zone : List ℕ) (c : Option Choice) → PassesNone (told_by h q d zone c)
told_by_none h q d zone None = refl
told_by_none h q d zone (Some c) = replying_none (info_way h q c.range d) (info h c.range zone)

zones_none : (h : Holding) (q : ℕ) (d : Datagram) (p : Option Packet) → PassesNone (zones_told h q d p)
zones_none h q d None = refl
zones_none h q d (Some (zip.Query nets)) = replying_none (way_back h q d) (map (bytes_of zip_packet) (replies h.zones nets))
zones_none h q d (Some (zip.Reply n names)) = refl
zones_none h q d (Some (zip.GetNetInfo unused zone)) = told_by_none h q d zone (slice_get h.ports q)
zones_none h q d (Some (zip.NetInfoReply info)) = refl
zones_none h q d (Some (zip.ExtendedReply n names)) = refl

-- ---- Datagrams that ended at the router

served_none : (h : Holding) (e : Ending) (d : Datagram) → PassesNone (served h e d)
served_none h e d =
    none_of_two (is_to 4 4 d) _ _ (replying_none (way_back h e.port d) (option_to_list (echo_reply d)))
    (none_of_two (is_to 2 2 d) _ _
    (none_of_two e.is_own _ [] (requests_none h d (names_in d.payload)) refl)
    (none_of_two (is_to 6 6 d) _ [] (zones_none h e.port d (zones_in d.payload)) refl))

made_none : (h : Holding) (e : Ending) (d : Datagram) → PassesNone (made_for h e d)
made_none h e d =
    none_of_two (is_to 3 6 d) _ _
    (replying_none (way_back h e.port d) (bytes_of_all (transacted h d (transaction_in d.payload)).0)) (served_none h e d)

handled_none : (h : Holding) (e : Option Ending) (d : Datagram) → PassesNone (handled h e d).0
handled_none h None d = refl
handled_none h (Some e) d = by (checks d)
  where
    by : (b : Bool) → PassesNone (cond {A = List Output × List AtpRequest} b (made_for h e d, requests_after h d) ([], h.requests)).0
    by true = made_none h e d
    by false = refl

resolved_none : (ports : List Choice) (k : ℕ) (p : Option AarpPacket) → PassesNone (resolved ports k p)
resolved_none ports k None = refl
resolved_none ports k (Some sent) = wired_none (answer_by sent (slice_get ports k))
  where
    wired_none : (a : Option AarpPacket) → PassesNone (wired k a)
    wired_none None = refl
    wired_none (Some a) = refl

-- ---- Requests for routing data

answered_none : (k : ℕ) (rows : List Row) (c : Option Choice) (w : Option Way) (r : Option RoutesRequest)
    → PassesNone (answered k rows c w r)
answered_none k rows (Some c) (Some w) (Some r) =
    none_mapped (λ p. made (as_data w) (bytes_of routing_data p)) (packets_asked k c.range w.header.source rows r) (λ p. refl)
answered_none k rows (Some c) (Some w) None = refl
answered_none k rows (Some c) None r = refl
answered_none k rows None w r = refl

asked_ended_none : (h : Holding) (e : Option Ending) (d : Datagram) → PassesNone (asked_by_ending h e d)
asked_ended_none h None d = refl
asked_ended_none h (Some e) d =
    none_of_two _ (answered e.port h.routes (slice_get h.ports e.port) (way_back h e.port d) (request_in d.payload)) []
    (answered_none e.port h.routes (slice_get h.ports e.port) (way_back h e.port d) (request_in d.payload)) refl

asked_kind_none : (kind : Kind) (h : Holding) (x : Hearing) → PassesNone (asked_by_kind kind h x)
asked_kind_none Ddp h x = by (datagram_at x.bytes)
  where
    by : (d : Option Datagram) → PassesNone (asked_by_datagram h x d)
    by None = refl
    by (Some d) = asked_ended_none h (course h.ports h.routes x.port x.link d.hops d.target).ending d
asked_kind_none Aarp h x = refl

answers_none : (peers : Peers) (h : Holding) (x : Hearing) → PassesNone (answers_to peers h x)
answers_none Played h x = refl
answers_none Real h x = asked_kind_none x.kind h x

-- ---- Ticks

probed_none : (k : ℕ) (p : Option AarpPacket) → PassesNone (probed k p)
probed_none k None = refl
probed_none k (Some p) = refl

probes_none : (k : ℕ) (cs : List Choice) → PassesNone (probes k cs)
probes_none k [] = refl
probes_none k (c ∷ cs) =
    none_both (probed k (choice_ticked c).1) (probes (k + 1) cs) (probed_none k (choice_ticked c).1) (probes_none (k + 1) cs)

data_none : (k : ℕ) (range : Span) (me : Option Addr) (rows : List Row) → PassesNone (data_by k range me rows)
data_none k range None rows = refl
data_none k range (Some me) rows =
    none_mapped (λ p. made (data_way k me) (bytes_of routing_data p)) (packets_for k range me rows) (λ p. refl)

all_data_none : (k : ℕ) (cs : List Choice) (rows : List Row) → PassesNone (data_from k cs rows)
all_data_none k [] rows = refl
all_data_none k (c ∷ cs) rows =
    none_both (data_by k c.range (settled c) rows) (data_from (k + 1) cs rows) (data_none k c.range (settled c) rows)
    (all_data_none (k + 1) cs rows)

query_none : (me : Option Addr) (q : Query) → PassesNone (query_from me q)
query_none None q = refl
query_none (Some me) q = refl

queries_none : (ports : List Choice) (qs : List Query) → PassesNone (all_queries ports qs)
queries_none ports [] = refl
queries_none ports (q ∷ qs) =
    none_both (query_from (own_at ports q.port) q) (all_queries ports qs) (query_none (own_at ports q.port) q) (queries_none ports qs)

sent_none : (phase : ℕ) (h : Holding) → PassesNone (sent_by phase h)
sent_none phase h =
    none_of_two _ (data_from 0 h.ports h.routes ++ all_queries h.ports (queries_of h.routes h.zones)) []
    (none_both (data_from 0 h.ports h.routes) (all_queries h.ports (queries_of h.routes h.zones))
    (all_data_none 0 h.ports h.routes) (queries_none h.ports (queries_of h.routes h.zones))) refl

ticked_none : (l : Living) → PassesNone (ticked_live l).0
ticked_none l =
    none_both (probes 0 l.router.ports) (sent_by (phase_after l.phase) (router_after (phase_after l.phase) l.router))
    (probes_none 0 l.router.ports) (sent_none (phase_after l.phase) (router_after (phase_after l.phase) l.router))

-- ---- At most what was brought

abbrev PassesAtMost : List Output → List (List ℕ) → Type 0
PassesAtMost os bytes = (flat_map passed_in os ≡ []) ⊎ (flat_map passed_in os ≡ bytes)

most_then : (os qs : List Output) (bytes : List (List ℕ)) → PassesAtMost os bytes → PassesNone qs → PassesAtMost (os ++ qs) bytes
most_then os qs bytes (inl p) q = inl (none_both os qs p q)
most_then os qs bytes (inr p) q =
    inr (flat_map-append passed_in os qs ∙ ap (λ (l : List (List ℕ)). flat_map passed_in os ++ l) q ∙ append-nil (flat_map passed_in os) ∙ p)

fate_most : (s : Option Step) (d : Datagram) → PassesAtMost (fate s d) (onward d ∷ [])
fate_most None d = inl refl
fate_most (Some (step.Pass q to)) d = inr refl
fate_most (Some (step.Keep q)) d = inl refl
fate_most (Some (step.Drop cause)) d = inl refl

datagram_most : (h : Holding) (x : Hearing) (d : Option Datagram)
    → PassesAtMost (heard_datagram h x d).0 (map onward (option_to_list d))
datagram_most h x None = inl refl
datagram_most h x (Some d) = by (course h.ports h.routes x.port x.link d.hops d.target)
  where
    by : (c : Course) → PassesAtMost (fate c.step d ++ (handled h c.ending d).0) (onward d ∷ [])
    by c = most_then (fate c.step d) (handled h c.ending d).0 (onward d ∷ []) (fate_most c.step d) (handled_none h c.ending d)

heard_most : (kind : Kind) (h : Holding) (x : Hearing) → PassesAtMost (heard_kind kind h x).0 (one_hop_more kind x.bytes)
heard_most Ddp h x = datagram_most h x (datagram_at x.bytes)
heard_most Aarp h x = inl (resolved_none h.ports x.port (packet_at x.bytes))

outputs_most : (peers : Peers) (l : Living) (x : Hearing) → PassesAtMost (outputs_for peers l x) (one_hop_more x.kind x.bytes)
outputs_most peers l x =
    most_then (heard_kind x.kind l.router x).0 (answers_to peers l.router x) (one_hop_more x.kind x.bytes)
    (heard_most x.kind l.router x) (answers_none peers l.router x)

link_most : (r : Running) (k : ℕ) (f : Framed) (link : Option Link)
    → PassesAtMost (outputs_heard r.peers r.living (option_map (heard_on k f) link)) (brought_by (Heard k f))
link_most r k f None = inl refl
link_most r k f (Some link) = outputs_most r.peers r.living (heard_on k f link)

port_most : (r : Running) (k : ℕ) (f : Framed) (p : Option Ported)
    → PassesAtMost (outputs_heard r.peers r.living (hearing_of r.peers k f p)) (brought_by (Heard k f))
port_most r k f None = inl refl
port_most r k f (Some p) = link_most r k f (link_at r.peers p f)

-- For an event a router passes on nothing, or the datagram that it brings, with one hop more.
pub passed_once : (r : Running) (e : Event) → (passed_for r e ≡ []) ⊎ (passed_for r e ≡ brought_by e)
passed_once r Tick = inl (ticked_none r.living)
passed_once r (Heard k f) = port_most r k f (slice_get r.ports k)
