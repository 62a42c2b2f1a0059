-- If a node takes a frame, the entries that follow are a block of a legal transcript.
use Rattle.std.proofs.Common.{◌≡◌, ℕ, ◌+◌, ◌<◌, Bool, true, false, not, ◌&&◌, ◌==◌, cond, if◌then◌else◌, List, [], ◌∷◌, Option, Some, None}
use Rattle.std.proofs.Common.{length, map, refl, sym, ap, ◌∙◌, subst, arith, eqb-true}
use Rattle.std.specs.Prelude.{Contains, option_to_list}
use Rattle.std.specs.List.{AllByRecursion as Each}
use Rattle.std.proofs.lemmas.Bool.{and_parts, le-ltb}
use Rattle.aarp.specs.Choosing.{settled}
use Rattle.at_base.specs.declared.address.Addr.{Addr}
use Rattle.audit.specs.Rules.{Passes}
use Rattle.audit.specs.Routing.{hand}
use Rattle.cable_model.specs.Outcomes.{all_entries, heard_by, link_of}
use Rattle.cable_model.specs.Pending.{Pair, pending}
use Rattle.cable_model.specs.Transcript.{Entry, Took, stamps}
use Rattle.ddp.specs.Bodies.{target}
use Rattle.ddp.specs.Datagram.{Datagram}
use Rattle.ddp.proofs.Shape.{value_laid}
use Rattle.echo.specs.Echo.{echo_reply}
use Rattle.end_node.specs.Answers.{Hears, heard, heard_datagram, heard_kind, heard_own, served, takes}
use Rattle.station.specs.Ways.{checks, is_summed, is_to, reply_header, replying}
use Rattle.end_node.specs.Holding.{NodeHolding}
use Rattle.end_node.specs.Lookups.{answer_header, is_in, looked_up, replies, reply_of, told, told_by, told_of}
use Rattle.nbp.specs.Packets.{NbpPacket, names_in}
use Rattle.end_node.specs.Ways.{reply_way, way_back}
use Rattle.image_stations.specs.Holders.{HoldsNode}
use Rattle.legal_stations.proofs.Requested.{requested}
use Rattle.legal_runs.specs.Answers.{Others, ends_at}
use Rattle.legal_runs.specs.Legal.{Block, IsLegal}
use Rattle.legal_runs.specs.Legs.{is_datagram, is_unicast, places_of}
use Rattle.legal_runs.specs.Stations.{cable_seats, has_address, is_router}
use Rattle.nbp.specs.Registered.{answers}
use Rattle.nbp.specs.declared.packet.Function.{Function}
use Rattle.nbp.specs.declared.packet.Function.TheVariants.{BroadcastRequest, ForwardRequest, Lookup, Reply}
use Rattle.nbp.specs.declared.tuple.Tuple.{Tuple}
use Rattle.station.specs.Lawful.{AreLawful, IsGood}
use Rattle.station.specs.declared.output.Output.{Output}
use Rattle.station.specs.declared.way.Way.{Way}
use Rattle.table_image.specs.Internet.{Internet}
use Rattle.legal_stations.proofs.Arrivals.{Arrives, arrives}
use Rattle.legal_stations.proofs.Asked.{Answered, unended}
use Rattle.legal_stations.proofs.Datagrams.{Inside, inside}
use Rattle.legal_stations.proofs.Leaving.{AsksNothing, Leaves, MayGo, legs_other, replies_leave, replies_quiet}
use Rattle.legal_stations.proofs.Making.{each_of}
use Rattle.legal_stations.proofs.NodeNames.{quiet_replies}
use Rattle.legal_stations.proofs.NodeWays.{reply_goes}
use Rattle.legal_stations.proofs.RouterTakes.{TakesSo, block_is}
use Rattle.legal_stations.specs.Fated.{IsFate, NoFate}
use Rattle.resolved_runs.specs.Fates.{fate_with, fate_with_by}
use Rattle.legal_stations.proofs.RouterWays.{Replies, replies_are}

-- ---- Frames that a node hears

-- The effect of a frame on a node: its outputs, and what it holds of the image afterwards, are those of the definition
-- `heard`.
record HeardSo (old : NodeHolding) (p : Pair) (added : List Output) (new : NodeHolding) : Type 0 where
  outputs : added ≡ (heard old (heard_by p)).0
  port : new.port ≡ (heard old (heard_by p)).1.port
  zone : new.zone ≡ (heard old (heard_by p)).1.zone
  router : new.router ≡ (heard old (heard_by p)).1.router
  names : new.names ≡ (heard old (heard_by p)).1.names

heard_so : (old new : NodeHolding) (p : Pair) (added : List Output) → Hears old (heard_by p) added new → HeardSo old p added new
heard_so old new p added h = record {
  outputs = ap (λ (y : List Output × NodeHolding). y.0) h.0;
  port = ap (λ (y : List Output × NodeHolding). y.1.port) h.0;
  zone = ap (λ (y : List Output × NodeHolding). y.1.zone) h.0;
  router = ap (λ (y : List Output × NodeHolding). y.1.router) h.0;
  names = ap (λ (y : List Output × NodeHolding). y.1.names) h.0;
}

module _ (i : Internet) (ok : Passes i) (p : Pair) (k n : ℕ) (far : p.seat.station ≡ length i.routers + k) (h : NodeHolding)
    (holds : HoldsNode i k h) where
  abbrev s : ℕ
  s = p.seat.station

  no_router : is_router i s ≡ false
  no_router = le-ltb s (length i.routers) (omega (arith, far))

  -- A node passes nothing on.
  no_fate : IsFate i s (λ leg. fate_with i leg p) []
  no_fate =
      NoFate (λ leg. ap (λ b. cond b (fate_with_by i leg s p (hand i s (target p.frame.bytes).net)) [])
      (none (is_datagram p.frame.kind) (is_unicast p.frame.to) (is_router i s) ((target p.frame.bytes).net == 0)
      (has_address i s p.seat.cable (target p.frame.bytes)) no_router))
    where
      none : (k u r z o : Bool) → r ≡ false → (k && u && r && not z && not o) ≡ false
      none true true false z o e = refl
      none true false r z o e = refl
      none false u r z o e = refl
      none true true true z o e = cc

  no_end : ends_at i p ≡ false
  no_end = none (is_unicast p.frame.to) (is_router i s) _ no_router
    where
      none : (u r o : Bool) → r ≡ false → (u && r && o) ≡ false
      none true false o e = refl
      none false r o e = refl
      none true true o e = cc

  -- Outputs that are no requests.
  answered : (os : List Output) → Each (Leaves i s) os → Each AsksNothing os → Answered i p os
  answered os leave quiet =
      let q = unended i p no_end in
      record { leaves = leave; answers = Others q.0 q.1 (legs_other i s os quiet) }

  -- ---- Echoes and names

  module _ (x : Inside p.frame.bytes) where
    abbrev d : Datagram
    d = x.d

    echo_answer : is_to 4 4 d ≡ true → Each (IsGood n) (replying (way_back h d) (option_to_list (echo_reply d)))
        → Answered i p (replying (way_back h d) (option_to_list (echo_reply d)))
    echo_answer four good =
        let l = value_laid d x.spelled.0 in
        let kind : (d.kind == 2) ≡ false = ap (λ m. m == 2) (eqb-true d.kind 4 (and_parts (d.kind == 4) (d.target_socket == 4) four).0) in
        let goes = reply_goes i ok k s far h holds (reply_header d d.source) (record {
          net = l.source_net;
          node = l.source_node;
          target_socket = l.source_socket;
          source_socket = l.target_socket;
          kind = l.kind;
        }) in
        let w = replies_are i s n d.kind kind (way_back h d) goes (option_to_list (echo_reply d)) good in
        answered _ w.0 w.1

    replies_answer : (summed : Bool) (id : ℕ) (t : Tuple) → t.at.net < 65536 → t.at.node < 256 → t.socket < 256 → (own : Option Addr)
        → Each (IsGood n) (replies h summed id t own) → Answered i p (replies h summed id t own)
    replies_answer summed id t net node socket None good = answered [] tt tt
    replies_answer summed id t net node socket (Some own) good =
        let header = answer_header summed t in
        let goes = reply_goes i ok k s far h holds header
        (record { net = net; node = node; target_socket = socket; source_socket = omega arith; kind = omega arith }) in
        let ts = answers t.object t.kind h.names in
        let may = way (reply_way h header) goes in
        answered _ (replies_leave i s n (reply_way h header) may (map (reply_of own h.zone id) ts) good)
        (replies_quiet i s n (reply_way h header) may (map (reply_of own h.zone id) ts) good
        (quiet_replies n own h.zone id (reply_way h header) ts good))
      where
        way : (o : Option Way) → Replies i s 2 o → MayGo i s o
        way None is = tt
        way (Some w) is = is.0

    looked_answer : (summed : Bool) (id : ℕ) (t : Tuple) → t.at.net < 65536 → t.at.node < 256 → t.socket < 256
        → Each (IsGood n) (looked_up h summed id t) → Answered i p (looked_up h summed id t)
    looked_answer summed id t net node socket = by (is_in h.zone t.zone)
      where
        by : (b : Bool) → Each (IsGood n) (cond b (replies h summed id t (settled h.port)) [])
            → Answered i p (cond b (replies h summed id t (settled h.port)) [])
        by true good = replies_answer summed id t net node socket (settled h.port) good
        by false good = answered [] tt tt

    told_answer : (o : Option NbpPacket) → names_in d.payload ≡ o → Each (IsGood n) (told h d o) → Answered i p (told h d o)
    told_answer None e good = answered [] tt tt
    told_answer (Some q) e good = by_function q.function refl good
      where
        silent : (f : Function) → q.function ≡ f → ((id : ℕ) (t : Tuple) → told_by h (is_summed d) id t f ≡ []) → (ts : List Tuple)
            → told_of h (is_summed d) q ts ≡ []
        silent f e none [] = refl
        silent f e none (t ∷ ts) = ap (told_by h (is_summed d) q.id t) e ∙ none q.id t

        nothing : told h d (Some q) ≡ [] → Each (IsGood n) (told h d (Some q)) → Answered i p (told h d (Some q))
        nothing e good = subst (Answered i p) (sym e) (answered [] tt tt)

        by_function : (f : Function) → q.function ≡ f → Each (IsGood n) (told h d (Some q)) → Answered i p (told h d (Some q))
        by_function Lookup f =
            let it = requested d.payload q x.each e (λ r. other q.function f r) in
            let is : told h d (Some q) ≡ looked_up h (is_summed d) q.id it.tuple =
            ap (λ (z : NbpPacket). told_of h (is_summed d) q z.tuples) it.is ∙ ap (told_by h (is_summed d) q.id it.tuple) f in
            subst (λ os. Each (IsGood n) os → Answered i p os) (sym is)
            (looked_answer (is_summed d) q.id it.tuple it.fits.at_net it.fits.at_node it.fits.socket)
          where
            other : (f : Function) → f ≡ Lookup → f ≡ Reply → ⊥
            other f a b = cc
        by_function BroadcastRequest f = nothing (silent BroadcastRequest f (λ id t. refl) q.tuples)
        by_function Reply f = nothing (silent Reply f (λ id t. refl) q.tuples)
        by_function ForwardRequest f = nothing (silent ForwardRequest f (λ id t. refl) q.tuples)

    served_answer : Each (IsGood n) (served h d) → Answered i p (served h d)
    served_answer = by_four (is_to 4 4 d) refl
      where
        by_two : (b : Bool) → Each (IsGood n) (if b then told h d (names_in d.payload) else []) → Answered i p
            (if b then told h d (names_in d.payload) else [])
        by_two true good = told_answer (names_in d.payload) refl good
        by_two false good = answered [] tt tt

        by_four : (b : Bool) → is_to 4 4 d ≡ b
            → Each (IsGood n) (if b then replying (way_back h d) (option_to_list (echo_reply d)) else if is_to 2 2 d then told h d
            (names_in d.payload) else [])
            → Answered i p (if b then replying (way_back h d) (option_to_list (echo_reply d)) else if is_to 2 2 d then told h d
            (names_in d.payload) else [])
        by_four true e good = echo_answer e good
        by_four false e good = by_two (is_to 2 2 d) good

    -- ---- By whether the node accepts it

    -- The result of hearing a frame: the outputs are answers, and the node still holds the image's contents.
    record IsHeard (y : List Output × NodeHolding) : Type 0 where
      answer : Each (IsGood n) y.0 → Answered i p y.0
      port : y.1.port ≡ h.port
      zone : y.1.zone ≡ h.zone
      router : y.1.router ≡ h.router
      names : y.1.names ≡ h.names

    datagram_heard : IsHeard (heard_datagram h (link_of p.frame.to) (Some d))
    datagram_heard = by (takes h (link_of p.frame.to) d && checks d)
      where
        by : (b : Bool) → IsHeard (cond b (heard_own h d) ([], h))
        by true = record { answer = served_answer; port = refl; zone = refl; router = refl; names = refl }
        by false = record { answer = λ good. answered [] tt tt; port = refl; zone = refl; router = refl; names = refl }

-- What a node puts out for a pair that it takes, and that it still holds the image's contents.
pub node_outputs : (i : Internet) (p : Pair) (k n : ℕ) (old new : NodeHolding) (added : List Output)
    → (ok : Passes i) → Arrives i ok p → p.seat.station ≡ length i.routers + k
    → HoldsNode i k old → Hears old (heard_by p) added new → AreLawful n added → TakesSo i p added × HoldsNode i k new
node_outputs i p k n old new added ok a far holds hears lawful =
    let x = inside p.frame.bytes a.framed a.fine.is_body in
    let so = heard_so old new p added hears in
    let is : heard_datagram old (link_of p.frame.to) (Some x.d) ≡ heard old (heard_by p) =
    sym (ap (λ kind. heard_kind kind old (heard_by p)) a.fine.kind ∙ ap (heard_datagram old (link_of p.frame.to)) x.read_is) in
    let w : IsHeard i ok p k n far old holds x (heard old (heard_by p)) =
    subst (IsHeard i ok p k n far old holds x) is (datagram_heard i ok p k n far old holds x) in
    let good = each_of (IsGood n) added lawful.each in (
      record {
        front = [];
        made = added;
        outputs = refl;
        fate = no_fate i ok p k n far old holds;
        answered = subst (Answered i p) (sym so.outputs) (w.answer (subst (Each (IsGood n)) so.outputs good));
      },
      record {
        node = holds.node;
        known = holds.known;
        port = so.port ∙ (w.port ∙ holds.port);
        zone = so.zone ∙ (w.zone ∙ holds.zone);
        router = so.router ∙ (w.router ∙ holds.router);
        names = so.names ∙ (w.names ∙ holds.names);
      },
    )

pub node_takes : (i : Internet) (t : List Entry) (p : Pair) (k n : ℕ) (old new : NodeHolding) (added : List Output)
    → Passes i → IsLegal i t → Contains (pending (cable_seats i) t) p → p.seat.station ≡ length i.routers + k
    → HoldsNode i k old → Hears old (heard_by p) added new → AreLawful n added
    → Block i t (Took p.frame.stamp p.seat.station
    ∷ all_entries (places_of i) (cable_seats i) p.seat.station (stamps t) added)
    × HoldsNode i k new
node_takes i t p k n old new added ok legal there far holds hears lawful =
    let w = node_outputs i p k n old new added ok (arrives i ok t p legal there) far holds hears lawful in
    (block_is i t p added there w.0, w.1)
