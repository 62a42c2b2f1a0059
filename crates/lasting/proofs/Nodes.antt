-- A node that has its address and asks no more about its cable puts out plain datagrams where it hears plain ones.
use Rattle.std.proofs.Common.{◌≡◌, ◌⊎◌, inl, inr, ℕ, ◌+◌, Bool, true, false, not, ◌&&◌, ◌==◌, cond, List, [], ◌∷◌}
use Rattle.std.proofs.Common.{Option, Some, None, refl, sym, ap, ◌∙◌, subst, map, nat_lt, is_some}
use Rattle.std.specs.List.{AllByRecursion as Each}
use Rattle.aarp.specs.Choosing.{Choice, answer, heard as port_heard, settled, ticked}
use Rattle.aarp.specs.declared.packet.Packet.{Packet}
use Rattle.at_base.specs.Spelling.{bytes_of}
use Rattle.at_base.specs.declared.address.Addr.{Addr}
use Rattle.atp.specs.Repeating.{repeats}
use Rattle.atp.specs.declared.repeats.Repeat.{Repeat}
use Rattle.atp.specs.declared.transaction.Transaction.{Transaction}
use Rattle.end_node.specs.Asking.{way_to_router}
use Rattle.ddp.specs.Datagram.{Datagram}
use Rattle.ddp.specs.declared.header.Header.{Header}
use Rattle.end_node.specs.Answers.{Hears, heard_datagram, heard_kind, heard_own, heard_packet, served, takes}
use Rattle.end_node.specs.Holding.{NodeHolding}
use Rattle.end_node.specs.Lookups.{answer_header, replies, told as names_told, told_by, told_of, is_in}
use Rattle.end_node.specs.Repeating.{repeated, repeats_by}
use Rattle.end_node.specs.Taking.{taken, taken_datagram, taken_kind}
use Rattle.end_node.specs.Ways.{next_to, reply_way, way_back, way_on}
use Rattle.lasting.proofs.Plainly.{IsPlainWay, either_plain, from_plain, made_plain, not_routing, not_zones, read_plain, replying_plain, three, two, wired_plain}
use Rattle.lasting.specs.Plain.{IsPlain, IsPlainFrame, IsPlainKind, IsPlainOutput}
use Rattle.lasting.specs.Standing.{IsQuietNode, asks_on}
use Rattle.lasting.specs.Hears.{data_datagram}
use Rattle.live_node.specs.Living.{LivingNode, LiveHears, routed, taught}
use Rattle.live_node.specs.Ticking.{LiveTicks, asks, choice_after, sent_live, silent}
use Rattle.nbp.specs.Packets.{NbpPacket, names_in}
use Rattle.nbp.specs.declared.packet.Function.{Function}
use Rattle.nbp.specs.declared.packet.Function.TheVariants.{BroadcastRequest, Lookup, Reply, ForwardRequest}
use Rattle.nbp.specs.declared.tuple.Tuple.{Tuple}
use Rattle.rtmp.specs.Data.{RoutingData, routing_data, routing_in}
use Rattle.station.specs.Hearing.{Hearing}
use Rattle.station.specs.Resolution.{packet_at}
use Rattle.station.specs.Values.{datagram_at}
use Rattle.station.specs.Ways.{checks, is_summed, is_to}
use Rattle.station.specs.declared.heard.Kind.{Kind}
use Rattle.station.specs.declared.heard.Kind.TheVariants.{Aarp, Ddp}
use Rattle.station.specs.declared.heard.Link.{Link}
use Rattle.station.specs.declared.heard.Link.TheVariants as link
use Rattle.station.specs.declared.output.Next.{Next}
use Rattle.station.specs.declared.output.Output.{Output}

-- the nodes differ in no more than their routers, what they received and their transactions, and how long they have waited
pub record IsLikeNode (a b : LivingNode) : Type 0 where
  pub port : b.node.port ≡ a.node.port
  pub zone : b.node.zone ≡ a.node.zone
  pub names : b.node.names ≡ a.node.names
  pub asked : b.asked ≡ a.asked
  pub answered : b.answered ≡ a.answered

pub like_then : (a b c : LivingNode) → IsLikeNode a b → IsLikeNode b c → IsLikeNode a c
like_then a b c x y = record {
  port = y.port ∙ x.port;
  zone = y.zone ∙ x.zone;
  names = y.names ∙ x.names;
  asked = y.asked ∙ x.asked;
  answered = y.answered ∙ x.answered;
}

pub still_quiet : (a b : LivingNode) → IsLikeNode a b → IsQuietNode a → IsQuietNode b
still_quiet a b x q = record {
  settled = ap (λ (c : Choice). c.is_settled) x.port ∙ q.settled;
  done = ap (λ y. not y && nat_lt b.asked 3) x.answered ∙ (ap (λ n. not a.answered && nat_lt n 3) x.asked ∙ q.done);
}

-- ---- What it answers

module _ (h : NodeHolding) where
  on_plain : (o : Option Next) (header : Header) → IsPlainKind header.kind → IsPlainWay (way_on h o header)
  on_plain None header p = tt
  on_plain (Some to) header p = from_plain (settled h.port) 0 to header p

  reply_plain : (header : Header) → IsPlainKind header.kind → IsPlainWay (reply_way h header)
  reply_plain header p = by (header.target.net == 0)
    where
      by : (b : Bool) → IsPlainWay (cond b None (way_on h (next_to h header.target) header))
      by true = tt
      by false = on_plain (next_to h header.target) header p

  replies_plain : (summed : Bool) (id : ℕ) (t : Tuple) (o : Option Addr) → Each IsPlainOutput (replies h summed id t o)
  replies_plain summed id t None = tt
  replies_plain summed id t (Some own) = replying_plain (reply_way h (answer_header summed t)) _ (reply_plain (answer_header summed t) two)

  function_plain : (summed : Bool) (id : ℕ) (t : Tuple) (f : Function) → Each IsPlainOutput (told_by h summed id t f)
  function_plain summed id t BroadcastRequest = tt
  function_plain summed id t Lookup = either_plain (is_in h.zone t.zone) _ [] (replies_plain summed id t (settled h.port)) tt
  function_plain summed id t Reply = tt
  function_plain summed id t ForwardRequest = tt

  tuples_plain : (summed : Bool) (p : NbpPacket) (ts : List Tuple) → Each IsPlainOutput (told_of h summed p ts)
  tuples_plain summed p [] = tt
  tuples_plain summed p (t ∷ ts) = function_plain summed p.id t p.function

  names_plain : (d : Datagram) (o : Option NbpPacket) → Each IsPlainOutput (names_told h d o)
  names_plain d None = tt
  names_plain d (Some p) = tuples_plain (is_summed d) p p.tuples

  served_plain : (d : Datagram) → IsPlainKind d.kind → Each IsPlainOutput (served h d)
  served_plain d p =
      either_plain (is_to 4 4 d) _ _ (replying_plain (way_back h d) _ (reply_plain _ p))
      (either_plain (is_to 2 2 d) _ [] (names_plain d (names_in d.payload)) tt)

  datagram_plain : (l : Link) (bytes : List ℕ) (o : Option Datagram) → datagram_at bytes ≡ o → IsPlain bytes
      → Each IsPlainOutput (heard_datagram h l o).0
  datagram_plain l bytes None e p = tt
  datagram_plain l bytes (Some d) e p = by (takes h l d && checks d)
    where
      by : (b : Bool) → Each IsPlainOutput (cond b (heard_own h d) ([], h)).0
      by true = served_plain d (read_plain bytes d p e)
      by false = tt

  packet_plain : (o : Option Packet) → Each IsPlainOutput (heard_packet h o).0
  packet_plain None = tt
  packet_plain (Some p) = wired_plain 0 (answer h.port p)

  kind_plain : (x : Hearing) (k : Kind) → IsPlainFrame k x.bytes → Each IsPlainOutput (heard_kind k h x).0
  kind_plain x Ddp p = datagram_plain x.link x.bytes (datagram_at x.bytes) refl p
  kind_plain x Aarp p = packet_plain (packet_at x.bytes)

-- the outputs of a node for a plain frame are plain
pub node_plain : (old new : LivingNode) (x : Hearing) (added : List Output) → IsPlainFrame x.kind x.bytes → LiveHears old x added new
    → Each IsPlainOutput added
node_plain old new x added p h =
    subst (Each IsPlainOutput) (sym (ap (λ (r : List Output × NodeHolding). r.0) h.answers.0)) (kind_plain old.node x x.kind p)

-- ---- What it becomes

-- a settled port is left alone
heard_same : (p : Packet) (c : Choice) → c.is_settled ≡ true → port_heard p c ≡ c
heard_same p c e = rw e refl

-- the parts of a node that stay
pub record Stays (h now : NodeHolding) : Type 0 where
  pub port : now.port ≡ h.port
  zone : now.zone ≡ h.zone
  names : now.names ≡ h.names
  router : now.router ≡ h.router

stays : (h : NodeHolding) → Stays h h
stays h = record { port = refl; zone = refl; names = refl; router = refl }

datagram_stays : (h : NodeHolding) (l : Link) (o : Option Datagram) → Stays h (heard_datagram h l o).1
datagram_stays h l None = stays h
datagram_stays h l (Some d) = by (takes h l d && checks d)
  where
    by : (b : Bool) → Stays h (cond b (heard_own h d) ([], h)).1
    by true = record { port = refl; zone = refl; names = refl; router = refl }
    by false = stays h

packet_stays : (h : NodeHolding) (o : Option Packet) → h.port.is_settled ≡ true → Stays h (heard_packet h o).1
packet_stays h None e = stays h
packet_stays h (Some p) e = record { port = heard_same p h.port e; zone = refl; names = refl; router = refl }

kind_stays : (h : NodeHolding) (x : Hearing) (k : Kind) → h.port.is_settled ≡ true → Stays h (heard_kind k h x).1
kind_stays h x Ddp e = datagram_stays h x.link (datagram_at x.bytes)
kind_stays h x Aarp e = packet_stays h (packet_at x.bytes) e

pub answers_stay : (h now : NodeHolding) (x : Hearing) (added : List Output) → h.port.is_settled ≡ true → Hears h x added now → Stays h now
answers_stay h now x added e g =
    let w : Stays h (record now { asks = h.asks }) =
    subst (Stays h) (sym (ap (λ (r : List Output × NodeHolding). r.1) g.0)) (kind_stays h x x.kind e) in
    record { port = w.port; zone = w.zone; names = w.names; router = w.router }

taken_plain : (h : NodeHolding) (x : Hearing) (k : Kind) → IsPlainFrame k x.bytes → (d : Datagram) → taken_kind k h x ≡ Some d → IsPlainKind d.kind
taken_plain h x Aarp p d e = cc
taken_plain h x Ddp p d e = by (datagram_at x.bytes) refl e
  where
    by : (o : Option Datagram) → datagram_at x.bytes ≡ o → taken_datagram h x.link o ≡ Some d → IsPlainKind d.kind
    by None f g = cc
    by (Some c) f g = on (takes h x.link c && checks c) g
      where
        on : (b : Bool) → cond b (Some c) None ≡ Some d → IsPlainKind d.kind
        on true k = let is : c ≡ d = cc in subst (λ (z : Datagram). IsPlainKind z.kind) is (read_plain x.bytes c p f)
        on false k = cc

taught_same : (l : LivingNode) (o : Option Datagram) → ((d : Datagram) → o ≡ Some d → IsPlainKind d.kind) → taught l o ≡ l
taught_same l None h = refl
taught_same l (Some d) h = let p = h d refl in rw (not_routing d p, not_zones d p) refl

-- a node that hears a plain frame stays like itself, with its router
pub node_heard : (old new : LivingNode) (x : Hearing) (added : List Output) → IsQuietNode old → IsPlainFrame x.kind x.bytes
    → LiveHears old x added new → IsLikeNode old new × (new.node.router ≡ old.node.router)
node_heard old new x added q p h =
    let s = answers_stay old.node h.answered x added q.settled h.answers in
    let is = h.learns ∙ taught_same (record old { node = h.answered }) (taken old.node x) (λ d e. taken_plain old.node x x.kind p d e) in (
      record {
        port = ap (λ (l : LivingNode). l.node.port) is ∙ s.port;
        zone = ap (λ (l : LivingNode). l.node.zone) is ∙ s.zone;
        names = ap (λ (l : LivingNode). l.node.names) is ∙ s.names;
        asked = ap (λ (l : LivingNode). l.asked) is;
        answered = ap (λ (l : LivingNode). l.answered) is;
      },
      ap (λ (l : LivingNode). l.node.router) is ∙ s.router,
    )

-- ---- A tick

pub tick_same : (c : Choice) → c.is_settled ≡ true → ((ticked c).0 ≡ c) × ((ticked c).1 ≡ None)
tick_same c e = (rw e refl, rw e refl)

asks_none : (own : Option Addr) (l : LivingNode) → asks_on l ≡ false → asks own l ≡ false
asks_none own l e = by (is_some own) (l.wait == 0)
  where
    by : (a b : Bool) → (((a && not l.answered) && nat_lt l.asked 3) && b) ≡ false
    by true b = ap (λ z. z && b) e
    by false b = refl

repeats_all : (own : Addr) (rs : List Repeat) → Each IsPlainOutput (map (repeated own) rs)
repeats_all own [] = tt
repeats_all own (r ∷ rs) =
    (made_plain (way_to_router 3 r.to.socket 252 own r.to.addr) r.bytes three, repeats_all own rs)

repeats_plain : (own : Option Addr) (slots : List (Option Transaction)) → Each IsPlainOutput (repeats_by own slots)
repeats_plain None slots = tt
repeats_plain (Some own) slots = repeats_all own (repeats slots)

sent_plain : (own : Option Addr) (l : LivingNode) → IsQuietNode l → Each IsPlainOutput (sent_live own l)
sent_plain own l q =
    rw ((tick_same l.node.port q.settled).1, asks_none own l q.done) (repeats_plain own l.node.asks.slots)

-- a node's tick: it puts out plain datagrams, stays like itself, and keeps its router or forgets it
pub node_ticks : (old new : LivingNode) (added : List Output) → IsQuietNode old → LiveTicks old added new
    → Each IsPlainOutput added × IsLikeNode old new × ((new.node.router ≡ old.node.router) ⊎ (new.node.router ≡ None))
node_ticks old new added q h =
    let own = settled (choice_after old) in
    let none = asks_none own old q.done in (
      subst (Each IsPlainOutput) (sym h.sends) (sent_plain own old q),
      record {
        port = ap (λ (l : LivingNode). l.node.port) h.left ∙ (tick_same old.node.port q.settled).0;
        zone = ap (λ (l : LivingNode). l.node.zone) h.left;
        names = ap (λ (l : LivingNode). l.node.names) h.left;
        asked = ap (λ (l : LivingNode). l.asked) h.left ∙ rw none refl;
        answered = ap (λ (l : LivingNode). l.answered) h.left;
      },
      by (silent_is old.node.router old.silence),
    )
  where
    silent_is : (o : Option Addr) (n : ℕ) → ((silent o n).0 ≡ o) ⊎ ((silent o n).0 ≡ None)
    silent_is None n = inl refl
    silent_is (Some a) n = on (nat_lt (n + 1) 250)
      where
        on : (b : Bool) → ((cond {A = Option Addr × ℕ} b (Some a, n + 1) (None, 0)).0 ≡ Some a) ⊎ ((cond {A = Option Addr × ℕ} b (Some a, n + 1) (None, 0)).0 ≡ None)
        on true = inl refl
        on false = inr refl

    by : ((silent old.node.router old.silence).0 ≡ old.node.router) ⊎ ((silent old.node.router old.silence).0 ≡ None)
        → (new.node.router ≡ old.node.router) ⊎ (new.node.router ≡ None)
    by (inl e) = inl (ap (λ (l : LivingNode). l.node.router) h.left ∙ e)
    by (inr e) = inr (ap (λ (l : LivingNode). l.node.router) h.left ∙ e)

-- ---- Routing data

module _ (old new : LivingNode) (port : ℕ) (bytes : List ℕ) (added : List Output) (me : Addr) (packet : RoutingData)
    (read : datagram_at bytes ≡ Some (data_datagram me packet)) (heard_as : routing_in (bytes_of routing_data packet) ≡ Some packet)
    (q : IsQuietNode old) where
  abbrev frame : Hearing
  frame = record { port = port; link = link.All; kind = Ddp; bytes = bytes }

  silent_data : (o : Option Datagram) → o ≡ Some (data_datagram me packet) → (heard_datagram old.node link.All o).0 ≡ []
  silent_data o e = ap (λ z. (heard_datagram old.node link.All z).0) e ∙ by (takes old.node link.All (data_datagram me packet) && checks (data_datagram me packet))
    where
      by : (b : Bool) → (cond {A = List Output × NodeHolding} b (heard_own old.node (data_datagram me packet)) ([], old.node)).0 ≡ []
      by true = refl
      by false = refl

  -- what a node does that hears routing data in a frame to all stations: it puts out nothing, and keeps its router or
  -- takes the one that sent the data
  pub node_data : LiveHears old (record { port = port; link = link.All; kind = Ddp; bytes = bytes }) added new
      → (added ≡ []) × IsLikeNode old new × ((new.node.router ≡ old.node.router) ⊎ (new.node.router ≡ Some packet.router))
  node_data h =
      let s = answers_stay old.node h.answered frame added q.settled h.answers in
      let silent : added ≡ [] = ap (λ (r : List Output × NodeHolding). r.0) h.answers.0 ∙ silent_data (datagram_at bytes) read in
      let learnt = by (takes old.node link.All (data_datagram me packet) && checks (data_datagram me packet)) in
      let is = h.learns ∙ ap (λ o. taught (record old { node = h.answered }) (taken_datagram old.node link.All o)) read in (
        silent,
        record {
          port = ap (λ (l : LivingNode). l.node.port) is ∙ (learnt.0.port ∙ s.port);
          zone = ap (λ (l : LivingNode). l.node.zone) is ∙ (learnt.0.zone ∙ s.zone);
          names = ap (λ (l : LivingNode). l.node.names) is ∙ (learnt.0.names ∙ s.names);
          asked = ap (λ (l : LivingNode). l.asked) is ∙ learnt.0.asked;
          answered = ap (λ (l : LivingNode). l.answered) is ∙ learnt.0.answered;
        },
        on s.router (ap (λ (l : LivingNode). l.node.router) is) learnt.1,
      )
    where
      before : LivingNode
      before = record old { node = h.answered }

      routed_is : (o : Option RoutingData) → o ≡ Some packet
          → IsLikeNode (record old { node = h.answered }) (routed (record old { node = h.answered }) o)
          × (((routed (record old { node = h.answered }) o).node.router ≡ h.answered.router) ⊎ ((routed (record old { node = h.answered }) o).node.router ≡ Some packet.router))
      routed_is None e = cc
      routed_is (Some p) e =
          let same : p ≡ packet = cc in
          (record { port = refl; zone = refl; names = refl; asked = refl; answered = refl }, inr (ap (λ (z : RoutingData). Some z.router) same))

      by : (b : Bool) → IsLikeNode (record old { node = h.answered }) (taught (record old { node = h.answered }) (cond b (Some (data_datagram me packet)) None))
          × (((taught (record old { node = h.answered }) (cond b (Some (data_datagram me packet)) None)).node.router ≡ h.answered.router)
          ⊎ ((taught (record old { node = h.answered }) (cond b (Some (data_datagram me packet)) None)).node.router ≡ Some packet.router))
      by true = routed_is (routing_in (bytes_of routing_data packet)) heard_as
      by false = (record { port = refl; zone = refl; names = refl; asked = refl; answered = refl }, inl refl)

      on : {x : Option Addr} → h.answered.router ≡ old.node.router → new.node.router ≡ x
          → (x ≡ h.answered.router) ⊎ (x ≡ Some packet.router)
          → (new.node.router ≡ old.node.router) ⊎ (new.node.router ≡ Some packet.router)
      on stay e (inl same) = inl (e ∙ (same ∙ stay))
      on stay e (inr is) = inr (e ∙ is)
