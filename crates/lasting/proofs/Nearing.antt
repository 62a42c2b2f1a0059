-- A live router hears frames and passes ticks: its rows lead by their ports as before, and what it puts out for a station goes by a
-- port in whose cable's range the station's network is.
use Rattle.std.proofs.Common.{◌≡◌, inl, inr, ℕ, ◌+◌, ◌%◌, ◌<◌, ◌≤◌, ◌==◌, Bool, true, false, not, ◌&&◌, List, [], ◌∷◌, ◌++◌, Option, Some, None}
use Rattle.std.proofs.Common.{refl, sym, ap, ◌∙◌, subst, slice_get, length, filter, map, if◌then◌else◌, arith, true≢false}
use Rattle.std.specs.Prelude.{option_and_then}
use Rattle.std.specs.List.{AllByRecursion as Each}
use Rattle.std.proofs.lemmas.Bool.{and_parts}
use Rattle.std.proofs.lemmas.List.{length-map}
use Rattle.aarp.specs.Choosing.{Choice, settled as settled_of, ticked}
use Rattle.aarp.specs.declared.packet.Packet.{Packet}
use Rattle.at_base.specs.Range.{Span}
use Rattle.at_base.specs.Spelling.{bytes_of}
use Rattle.at_base.specs.declared.address.Addr.{Addr}
use Rattle.audit.proofs.WalkLists.{At, at_one, at_within}
use Rattle.cable_model.proofs.Counting.{each-append}
use Rattle.ddp.specs.Datagram.{Datagram}
use Rattle.lasting.proofs.Images.{mapped}
use Rattle.lasting.proofs.Leading.{GoesIn, heard_in}
use Rattle.lasting.proofs.Ranges.{ranges_of}
use Rattle.lasting.proofs.Rightly.{AreRight, IsIn, LeadsIn, LeadsRightly, all_joined_right, routes_aged_right, taught_right}
use Rattle.learning.specs.Queries.{is_asked, queries_of, query_about}
use Rattle.learning.specs.declared.query.Query.{Query}
use Rattle.live_router.specs.Living.{Living, LiveHears, heard_live, routes_taught, taught}
use Rattle.live_router.specs.Ticking.{LiveTicks, all_joined, all_queries, data_by, data_from, data_way, packets_for, phase_after, ports_ticked, probes, query_from, router_after, sent_by, ticked_live}
use Rattle.router.specs.Answers.{heard_datagram, heard_kind}
use Rattle.router.specs.Ending.{ended}
use Rattle.router.specs.Holding.{Holding, own_at}
use Rattle.rtmp.specs.Data.{RoutingData, routing_data, routing_in}
use Rattle.rtmp.specs.Routes.{is_direct}
use Rattle.rtmp.specs.States.{is_usable}
use Rattle.rtmp.specs.declared.row.Row.{Row}
use Rattle.station.specs.Hearing.{Hearing}
use Rattle.station.specs.Making.{made}
use Rattle.station.specs.Resolution.{probed}
use Rattle.station.specs.Values.{datagram_at}
use Rattle.station.specs.Ways.{is_to}
use Rattle.station.specs.declared.heard.Kind.{Kind}
use Rattle.station.specs.declared.heard.Kind.TheVariants.{Aarp, Ddp}
use Rattle.station.specs.declared.output.Output.{Output}
use Rattle.station.specs.declared.output.Output.TheVariants as output
use Rattle.zip_zones.specs.Zones.{Known, is_answered}

-- the output goes by one of so many ports
abbrev pub IsWithin : ℕ → Output → Type 0
IsWithin n (output.Made port to bytes) = port < n
IsWithin n (output.Passed port to bytes) = port < n
IsWithin n (output.Kept port bytes) = Unit {0}
IsWithin n (output.Dropped cause bytes) = Unit {0}
IsWithin n (output.Wire port to bytes) = Unit {0}

-- the range of a port
range_at : (ports : List Choice) (q : ℕ) (c : Choice) (range : Span) → At ports q c → At (ranges_of ports) q range → c.range ≡ range
range_at ports q c range e at = at_one (ranges_of ports) q c.range range (mapped (λ (c : Choice). c.range) ports q c e) at

-- ---- Frames

-- a frame leaves the rows as they are, before the router learns of it
kind_routes : (h : Holding) (x : Hearing) (k : Kind) → (heard_kind k h x).1.routes ≡ h.routes
kind_routes h x Ddp = by (datagram_at x.bytes)
  where
    by : (o : Option Datagram) → (heard_datagram h x o).1.routes ≡ h.routes
    by None = refl
    by (Some d) = refl
kind_routes h x Aarp = refl

-- rows after what was learnt lead by their ports
then_right : (h after : Holding) (o : Option (ℕ × Datagram)) → after.routes ≡ h.routes → AreRight (ranges_of h.ports) h.routes
    → AreRight (ranges_of h.ports) (taught h after o).routes
then_right h after None same right = subst (AreRight (ranges_of h.ports)) (sym same) right
then_right h after (Some e) same right = by (is_to 1 1 e.1)
  where
    by : (b : Bool)
        → AreRight (ranges_of h.ports) (if b then routes_taught e.0 h.routes (slice_get h.ports e.0) (routing_in e.1.payload) else h.routes)
    by true =
        taught_right (ranges_of h.ports) e.0 h.routes (slice_get h.ports e.0) (routing_in e.1.payload)
        (λ c range is at. range_at h.ports e.0 c range is at) right
    by false = right

-- a router hears a frame
pub hears_right : (l new : Living) (x : Hearing) (added : List Output)
    → ((q : ℕ) (range : Span) → At (ranges_of l.router.ports) q range → 1 ≤ range.start) → AreRight (ranges_of l.router.ports) l.router.routes
    → LiveHears l x added new
    → Each (GoesIn (ranges_of l.router.ports)) added × AreRight (ranges_of l.router.ports) new.router.routes
hears_right l new x added valid right h =
    let outputs : added ≡ (heard_kind x.kind l.router x).0 = ap (λ (r : List Output × Living). r.0) h in
    let is : new ≡ (heard_live l x).1 = ap (λ (r : List Output × Living). r.1) h in (
      subst (Each (GoesIn (ranges_of l.router.ports))) (sym outputs) (heard_in l.router valid right x x.kind),
      subst (AreRight (ranges_of l.router.ports)) (sym (ap (λ (z : Living). z.router.routes) is))
          (then_right l.router (heard_kind x.kind l.router x).1 (ended l.router x) (kind_routes l.router x x.kind) right),
    )

-- ---- Ticks

-- what goes out in a tick
abbrev pub GoesBy : List Span → Output → Type 0
GoesBy rs o = GoesIn rs o × IsWithin (length rs) o

-- a probe goes to all
probe_goes : (rs : List Span) (k : ℕ) (o : Option Packet) → Each (GoesBy rs) (probed k o)
probe_goes rs k None = tt
probe_goes rs k (Some p) = ((tt, tt), tt)

-- so do several
probes_go : (rs : List Span) (k : ℕ) (cs : List Choice) → Each (GoesBy rs) (probes k cs)
probes_go rs k [] = tt
probes_go rs k (c ∷ cs) = each-append (GoesBy rs) (probed k (ticked c).1) (probes (k + 1) cs) (probe_goes rs k (ticked c).1) (probes_go rs (k + 1) cs)

-- routing data goes to all, by a port that there is
one_data : (rs : List Span) (k : ℕ) (range : Span) (o : Option Addr) (rows : List Row) → k < length rs → Each (GoesBy rs) (data_by k range o rows)
one_data rs k range None rows lt = tt
one_data rs k range (Some me) rows lt = all (packets_for k range me rows)
  where
    all : (ps : List RoutingData) → Each (GoesBy rs) (map (λ p. made (data_way k me) (bytes_of routing_data p)) ps)
    all [] = tt
    all (p ∷ ps) = ((tt, lt), all ps)

-- so does that of all ports
data_goes : (rs : List Span) (k : ℕ) (cs : List Choice) (rows : List Row) → k + length cs ≤ length rs → Each (GoesBy rs) (data_from k cs rows)
data_goes rs k [] rows le = tt
data_goes rs k (c ∷ cs) rows le =
    each-append (GoesBy rs) (data_by k c.range (settled_of c) rows) (data_from (k + 1) cs rows)
    (one_data rs k c.range (settled_of c) rows (omega (arith, le))) (data_goes rs (k + 1) cs rows (omega (arith, le)))

-- the query leads in the range of its port
abbrev AsksIn : List Span → Query → Type 0
AsksIn rs q = (range : Span) → At rs q.port range → IsIn range q.next.net

-- a query goes by a port that there is
query_goes : (rs : List Span) (o : Option Addr) (q : Query) → ((me : Addr) → o ≡ Some me → q.port < length rs) → AsksIn rs q
    → Each (GoesBy rs) (query_from o q)
query_goes rs None q low p = tt
query_goes rs (Some me) q low p = ((p, low me refl), tt)

-- so do several
queries_go : (rs : List Span) (ports : List Choice) (qs : List Query) → length ports ≡ length rs → Each (AsksIn rs) qs
    → Each (GoesBy rs) (all_queries ports qs)
queries_go rs ports [] many p = tt
queries_go rs ports (q ∷ qs) many p =
    each-append (GoesBy rs) (query_from (own_at ports q.port) q) (all_queries ports qs)
    (query_goes rs (own_at ports q.port) q (λ me e. by (slice_get ports q.port) refl e) p.0) (queries_go rs ports qs many p.1)
  where
    by : (o : Option Choice) → slice_get ports q.port ≡ o → {me : Addr} → option_and_then settled_of o ≡ Some me
        → q.port < length rs
    by None e f = cc
    by (Some c) e f = let low = at_within ports q.port c e in omega (arith, low, many)

-- queries are for next routers of rows
asked_in : (rs : List Span) (rows : List Row) (zones : List Known) → AreRight rs rows → Each (AsksIn rs) (queries_of rows zones)
asked_in rs rows zones right = all rows right
  where
    one : (r : Row) → LeadsRightly rs r → is_asked zones r ≡ true → AsksIn rs (query_about r)
    one r g e range at = by (g range at)
      where
        off : is_direct r ≡ false
        off = not_on (is_direct r) (and_parts (is_usable r.state) (not (is_direct r)) (and_parts (is_usable r.state && not (is_direct r)) (not (is_answered zones r.range)) e).0).1
          where
            not_on : (b : Bool) → not b ≡ true → b ≡ false
            not_on true h = cc
            not_on false h = refl

        by : LeadsIn range r → IsIn range r.next.net
        by (inl w) = absurd (true≢false (sym w.1 ∙ off))
        by (inr w) = w

    all : (rows : List Row) → AreRight rs rows → Each (AsksIn rs) (map query_about (filter (is_asked zones) rows))
    all [] h = tt
    all (r ∷ rows) h = by (is_asked zones r) refl (all rows h.1)
      where
        by : (b : Bool) → is_asked zones r ≡ b → Each (AsksIn rs) (map query_about (filter (is_asked zones) rows))
            → Each (AsksIn rs) (map query_about (if b then r ∷ filter (is_asked zones) rows else filter (is_asked zones) rows))
        by true e rest = (one r h.0 e, rest)
        by false e rest = rest

-- what is sent in a tick
sent_goes : (rs : List Span) (phase : ℕ) (h : Holding) → length h.ports ≡ length rs → AreRight rs h.routes → Each (GoesBy rs) (sent_by phase h)
sent_goes rs phase h many right = by (phase % 50 == 0)
  where
    by : (b : Bool)
        → Each (GoesBy rs) (if b then data_from 0 h.ports h.routes ++ all_queries h.ports (queries_of h.routes h.zones) else [])
    by true =
        each-append (GoesBy rs) (data_from 0 h.ports h.routes) (all_queries h.ports (queries_of h.routes h.zones))
        (data_goes rs 0 h.ports h.routes (omega (arith, many)))
        (queries_go rs h.ports (queries_of h.routes h.zones) many (asked_in rs h.routes h.zones right))
    by false = tt

-- a router passes a tick
pub ticks_right : (l new : Living) (added : List Output) → AreRight (ranges_of l.router.ports) l.router.routes → LiveTicks l added new
    → Each (GoesBy (ranges_of l.router.ports)) added × AreRight (ranges_of l.router.ports) new.router.routes
ticks_right l new added right h =
    let rs = ranges_of l.router.ports in
    let phase = phase_after l.phase in
    let is : new ≡ (ticked_live l).1 = ap (λ (r : List Output × Living). r.1) h in
    let outputs : added ≡ (ticked_live l).0 = ap (λ (r : List Output × Living). r.0) h in
    let after : AreRight rs (router_after phase l.router).routes =
    routes_aged_right rs phase (all_joined 0 l.router.ports l.router.routes)
    (all_joined_right rs 0 l.router.ports l.router.routes
    (λ j c other ec eo. let none : 0 + j ≡ j = omega arith in range_at l.router.ports j c other ec (subst (λ n. At rs n other) none eo)) right) in
    let many : length (ports_ticked l.router.ports) ≡ length rs =
    length-map l.router.ports (λ c. (ticked c).0) ∙ sym (length-map l.router.ports (λ (c : Choice). c.range)) in (
      subst (Each (GoesBy rs)) (sym outputs)
          (each-append (GoesBy rs) (probes 0 l.router.ports) (sent_by phase (router_after phase l.router)) (probes_go rs 0 l.router.ports)
          (sent_goes rs phase (router_after phase l.router) many after)),
      subst (AreRight rs) (sym (ap (λ (z : Living). z.router.routes) is)) after,
    )
