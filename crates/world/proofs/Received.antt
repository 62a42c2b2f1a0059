-- Stations receive the datagrams of frames that they take.
use Rattle.std.proofs.Common.{◌≡◌, ◌≢◌, ◌⊎◌, inl, inr, ℕ, zero, suc, Bool, true, false, ◌&&◌, not, cond, List, [], ◌∷◌, ◌++◌}
use Rattle.std.proofs.Common.{Option, None, Some, Contains, ◌-◌, refl, sym, ap, ◌∙◌, subst, arith, filter, length, map, slice_set}
use Rattle.std.specs.List.{All, AllByRecursion as Each}
use Rattle.std.specs.Option.{unwrap_or}
use Rattle.std.specs.Prelude.{if◌then◌else◌, IfErr, OnOk, Result}
use Rattle.std.proofs.Common.{Ok, Err}
use Rattle.aarp.specs.declared.packet.Packet.{Packet}
use Rattle.std.proofs.lemmas.List.Elements.{All-drop, All-push, All-weaker, Contains-append_left, Contains-append_right}
use Rattle.at_base.specs.declared.error.Error.{Error}
use Rattle.cable_model.proofs.Counting.{At, contained_at, each_at, each-append, each_map, filter_at, map_at}
use Rattle.cable_model.proofs.Finds.{contains_at}
use Rattle.cable_model.specs.Outcomes.{heard_by}
use Rattle.cable_model.specs.Pending.{Pair, is_heard, pairs, pairs_of, pending, was_ended}
use Rattle.cable_model.specs.Transcript.{Entry, Sent, Put, Took, Reached, Dropped, Lost, Hold}
use Rattle.cable_model.specs.declared.seat.Seat.{Seat}
use Rattle.ddp.specs.Datagram.{Datagram}
use Rattle.end_node.specs.Answers.{heard, heard_datagram, heard_kind, heard_own, heard_packet, is_served, keeping, keeping_any, kept, takes}
use Rattle.station.specs.Ways.{checks, is_to}
use Rattle.end_node.specs.Holding.{NodeHolding}
use Rattle.end_node.specs.Taking.{taken}
use Rattle.end_node.specs.declared.node.Datagram.{Datagram as Received}
use Rattle.station.specs.Members.{EitherHears}
use Rattle.station.specs.declared.member.Member.{Member}
use Rattle.station.specs.declared.member.Member.TheVariants.{Router, Node}
use Rattle.live_cables.proofs.Heard.{heard_in}
use Rattle.live_cables.specs.Living.{IsLossRefused, IsTakenBy, TakesIn, Wires, happened}
use Rattle.live_node.specs.Living.{LivingNode, LiveHears as NodeHears, informed, is_waiting, routed, taught, told}
use Rattle.rtmp.specs.Data.{routing_in, RoutingData}
use Rattle.zip_zones.specs.Formats.{zones_in}
use Rattle.live_router.specs.Living.{Living, LiveHears as RouterHears}
use Rattle.station.specs.Hearing.{Hearing}
use Rattle.station.specs.Resolution.{packet_at}
use Rattle.station.specs.Values.{datagram_at}
use Rattle.station.specs.declared.heard.Kind.{Kind}
use Rattle.station.specs.declared.heard.Kind.TheVariants.{Ddp, Aarp}
use Rattle.station.specs.declared.output.Output.{Output}
use Rattle.zip_zones.specs.declared.packet.NetInfo.{NetInfo}
use Rattle.zip_zones.specs.declared.packet.Packet.{Packet as ZipPacket}
use Rattle.zip_zones.specs.declared.packet.Packet.TheVariants.{Query, Reply, GetNetInfo, NetInfoReply, ExtendedReply}
use Rattle.planned_stations.specs.Planning.{ports_of}
use Rattle.world.specs.Going.{AddsIfNumbered}
use Rattle.world.specs.Received.{AreReceived, Hears, got}
use Rattle.world.specs.Worlds.{IsReceived}

-- ---- Pending frames were put

all_each : {X : Type 0} (P : X → Type 0) (xs : List X) → ((x : X) → P x) → Each P xs
all_each P [] f = tt
all_each P (x ∷ xs) f = (f x, all_each P xs f)

module _ (seats : List Seat) (t : List Entry) where
  of_put : (e : Entry) → Contains t e → Each (λ (p : Pair). Contains t (Put p.frame)) (pairs_of seats e)
  of_put (Put f) h =
      each_map (λ (p : Pair). Contains t (Put p.frame)) (λ s. record { frame = f; seat = s }) (filter (is_heard f) seats)
      (all_each (λ s. Contains t (Put f)) (filter (is_heard f) seats) (λ s. h))
  of_put (Sent s x) h = tt
  of_put (Took p s) h = tt
  of_put (Reached c s w x) h = tt
  of_put (Dropped r c x) h = tt
  of_put (Lost p) h = tt
  of_put (Hold g) h = tt

  all_put : (es : List Entry) → ((k : ℕ) (e : Entry) → At es k e → Contains t e)
      → Each (λ (p : Pair). Contains t (Put p.frame)) (pairs seats es)
  all_put [] f = tt
  all_put (e ∷ es) f =
      each-append (λ (p : Pair). Contains t (Put p.frame)) (pairs_of seats e) (pairs seats es) (of_put e (f zero e refl))
      (all_put es (λ k d at. f (suc k) d at))

  -- The frame of a pending pair was put.
  pub pending_put : (p : Pair) → Contains (pending seats t) p → Contains t (Put p.frame)
  pending_put p h =
      let k = contained_at (pending seats t) p h in
      let j = filter_at (λ p. not (was_ended t p)) (pairs seats t) k.0 p k.1 in
      each_at (λ (p : Pair). Contains t (Put p.frame)) (pairs seats t) j.0 p j.1 (all_put t (λ k e at. contains_at t k e at))

-- ---- Received datagrams stay received

received_more : (t more : List Entry) (k : ℕ) (d : Received) → IsReceived t k d → IsReceived (t ++ more) k d
received_more t more k d x = record {
  frame = x.frame;
  put = Contains-append_left t more (Put x.frame) x.put;
  took = Contains-append_left t more (Took x.frame.stamp k) x.took;
  datagram = x.datagram;
  read = x.read;
  keeps = x.keeps;
}

all_more : (t more : List Entry) (k : ℕ) (ds : List Received) → All (IsReceived t k) ds → All (IsReceived (t ++ more) k) ds
all_more t more k ds = All-weaker (IsReceived t k) (IsReceived (t ++ more) k) (λ d. received_more t more k d) ds

pub received_grown : (old new more : List Entry) (gots : List (List Received)) → new ≡ old ++ more → AreReceived old gots
    → AreReceived new gots
received_grown old new more gots grown h =
    subst (λ t. AreReceived t gots) (sym grown) (λ k ds at. all_more old more k ds (h k ds at))

-- Datagrams that stations had received before these steps are still those of frames that they took.
pub received_goes : (old new : Wires) (gots later : List (List Received)) → AddsIfNumbered old new → later ≡ gots
    → AreReceived (happened old) gots → AreReceived (happened new) later
received_goes old new gots later x same h =
    subst (AreReceived (happened new)) (sym same) (received_grown (happened old) (happened new) x.added gots x.grown h)

-- ---- One more

all_keeping : (P : Received → Type 0) (d : Received) (ds : List Received) → P d → All P ds → All P (keeping d ds)
all_keeping P d ds p h = All-drop P (length (ds ++ d ∷ []) - 64) (ds ++ d ∷ []) (All-push P ds d h p)

-- The element at an index of a list in which an element was set.
pub set_either : {X : Type 0} (xs : List X) (k j : ℕ) (y z : X) → At (slice_set xs k y) j z
    → ((j ≡ k) × (z ≡ y)) ⊎ ((j ≢ k) × At xs j z)
set_either [] k j y z e = cc
set_either (x ∷ xs) zero zero y z e = let s : y ≡ z = cc in inl (refl, sym s)
set_either (x ∷ xs) zero (suc j) y z e = inr (λ same. absurd (omega (arith, same)), e)
set_either (x ∷ xs) (suc k) zero y z e = inr (λ same. absurd (omega (arith, same)), e)
set_either (x ∷ xs) (suc k) (suc j) y z e = elim (set_either xs k j y z e) [
  | inl h ↦ inl (ap suc h.0, h.1)
  | inr h ↦ inr (λ same. h.0 (omega (arith, same)), h.1)
]

module _ (old new : Wires) (stamp k : ℕ) (Heard : Hearing → List Output → Type 0) (x : IsTakenBy old new stamp k Heard)
    (before after : List Received) (hears : (h : Hearing) (os : List Output) → Heard h os → Hears h before after) where
  more : List Entry
  more = Took stamp k ∷ x.rest

  after_took : All (IsReceived (happened old) k) before → All (IsReceived (happened old ++ more) k) after
  unfolding more
  after_took h = by (hears (heard_by x.heard.pair) x.heard.put_out x.heard.hears)
    where
      by : Hears (heard_by x.heard.pair) before after → All (IsReceived (happened old ++ more) k) after
      by (inl same) = subst (All (IsReceived (happened old ++ more) k)) (sym same) (all_more (happened old) more k before h)
      by (inr one) =
          subst (All (IsReceived (happened old ++ more) k)) (sym one.2)
          (all_keeping (IsReceived (happened old ++ more) k) (kept one.0) before
          (record {
            frame = x.heard.pair.frame;
            put =
                Contains-append_left (happened old) more (Put x.heard.pair.frame)
                (pending_put old.cabling.seats (happened old) x.heard.pair x.heard.was_pending);
            took =
                Contains-append_right (happened old) more (Took x.heard.pair.frame.stamp k)
                (contains_at more zero (Took x.heard.pair.frame.stamp k) (ap (λ s. Some (Took s k)) (sym x.heard.of_stamp)));
            datagram = one.0;
            read = one.1;
            keeps = refl;
          })
          (all_more (happened old) more k before h))

  -- The received datagrams of the station that took a frame are those of frames that it took, and those of the other
  -- stations are the same as before.
  pub took_received : (gots : List (List Received)) → At gots k before → AreReceived (happened old) gots
      → AreReceived (happened new) (slice_set gots k after)
  unfolding more
  took_received gots at h =
      subst (λ t. AreReceived t (slice_set gots k after)) (sym x.first)
      (λ j ds e. elim (set_either gots k j after ds e) [
        | inl is ↦ subst (λ i. All (IsReceived (happened old ++ more) i) ds) (sym is.0)
            (subst (All (IsReceived (happened old ++ more) k)) (sym is.1) (after_took (h k before at)))
        | inr there ↦ all_more (happened old) more j ds (h j ds there.1)
      ])

-- ---- Frames and ticks of a station

holding_hears : (h : NodeHolding) (x : Hearing) → Hears x h.received (heard h x).1.received
holding_hears h x = by x.kind
  where
    own : (d : Datagram) → datagram_at x.bytes ≡ Some d → Hears x h.received (heard_own h d).1.received
    own d read = on (is_served d)
      where
        on : (b : Bool) → Hears x h.received (keeping_any (cond b None (Some (kept d))) h.received)
        on true = inl refl
        on false = inr (d, read, refl)

    on_datagram : (o : Option Datagram) → datagram_at x.bytes ≡ o → Hears x h.received (heard_datagram h x.link o).1.received
    on_datagram None read = inl refl
    on_datagram (Some d) read = on (takes h x.link d && checks d)
      where
        on : (b : Bool) → Hears x h.received (cond b (heard_own h d) ([], h)).1.received
        on true = own d read
        on false = inl refl

    on_packet : (o : Option Packet) → Hears x h.received (heard_packet h o).1.received
    on_packet None = inl refl
    on_packet (Some p) = inl refl

    by : (k : Kind) → Hears x h.received (heard_kind k h x).1.received
    by Ddp = on_datagram (datagram_at x.bytes) refl
    by Aarp = on_packet (packet_at x.bytes)

informed_got : (l : LivingNode) (info : NetInfo) → (informed l info).node.received ≡ l.node.received
informed_got l info = by (is_waiting l)
  where
    by : (b : Bool)
        → (if b then record l { node = record l.node { zone = unwrap_or info.default l.node.zone }; answered = true } else l).node.received
        ≡ l.node.received
    by true = refl
    by false = refl

taught_got : (l : LivingNode) (o : Option Datagram) → (taught l o).node.received ≡ l.node.received
taught_got l None = refl
taught_got l (Some d) = by (is_to 1 1 d) (is_to 6 6 d)
  where
    by_routing : (o : Option RoutingData) → (routed l o).node.received ≡ l.node.received
    by_routing None = refl
    by_routing (Some p) = refl

    by_zones : (o : Option ZipPacket) → (told l o).node.received ≡ l.node.received
    by_zones None = refl
    by_zones (Some (Query nets)) = refl
    by_zones (Some (Reply count entries)) = refl
    by_zones (Some (GetNetInfo unused asked)) = refl
    by_zones (Some (NetInfoReply info)) = informed_got l info
    by_zones (Some (ExtendedReply total entries)) = refl

    by : (a b : Bool)
        → (if a then routed l (routing_in d.payload) else if b then told l (zones_in d.payload) else l).node.received ≡ l.node.received
    by true b = by_routing (routing_in d.payload)
    by false true = by_zones (zones_in d.payload)
    by false false = refl

node_hears : (old new : LivingNode) (x : Hearing) (added : List Output) → NodeHears old x added new
    → Hears x old.node.received new.node.received
node_hears old new x added h =
    subst (Hears x old.node.received)
    (sym (ap (λ l. l.node.received) h.learns ∙ taught_got (record old { node = h.answered }) (taken old.node x)
    ∙ ap (λ p. p.1.received) h.answers.0))
    (holding_hears old.node x)

-- The received datagrams of a station after it heard a frame.
pub member_hears : (old new : Member Living LivingNode) (x : Hearing) (added : List Output)
    → EitherHears RouterHears NodeHears old x added new → Hears x (got old) (got new)
member_hears (Router old) (Router new) x added h = inl refl
member_hears (Router old) (Node new) x added h = absurd h
member_hears (Node old) (Router new) x added h = absurd h
member_hears (Node old) (Node new) x added h = node_hears old new x added h

-- ---- Lists of stations

pub got_set : (ms : List (Member Living LivingNode)) (k : ℕ) (m : Member Living LivingNode)
    → map got (slice_set ms k m) ≡ slice_set (map got ms) k (got m)
got_set [] k m = refl
got_set (n ∷ ms) zero m = refl
got_set (n ∷ ms) (suc k) m = ap (λ l. got n ∷ l) (got_set ms k m)

-- A station is replaced by another that has received the same datagrams.
pub got_stays : (ms : List (Member Living LivingNode)) (k : ℕ) (old new : Member Living LivingNode) → At ms k old
    → got new ≡ got old → map got (slice_set ms k new) ≡ map got ms
got_stays [] k old new h e = cc
got_stays (m ∷ ms) zero old new h e = let is : m ≡ old = cc in ap (λ n. n ∷ map got ms) (e ∙ ap got (sym is))
got_stays (m ∷ ms) (suc k) old new h e = ap (λ l. got m ∷ l) (got_stays ms k old new h e)

-- ---- A station takes a frame, or it doesn't

module _ (ms : List (Member Living LivingNode)) (k : ℕ) (old new : Wires) (stamp : ℕ) (before after : Member Living LivingNode) where
  -- How the station hears the frame.
  abbrev HearsIt : Hearing → List Output → Type 0
  HearsIt h added = EitherHears RouterHears NodeHears before h added after

  did : At ms k before → IsTakenBy old new stamp k HearsIt → AreReceived (happened old) (map got ms)
      → AreReceived (happened new) (map got (slice_set ms k after))
  did at x h =
      subst (AreReceived (happened new)) (sym (got_set ms k after))
      (took_received old new stamp k HearsIt x (got before) (got after) (λ y added heard. member_hears before after y added heard)
      (map got ms) (map_at got ms k before at) h)

  pub take_received : (r : Result (Unit {0}) Error) → At ms k before → OnOk r (IsTakenBy old new stamp k HearsIt)
      → IfErr r (λ e. ((new ≡ old) × (after ≡ before))
      ⊎ (TakesIn stamp k (ports_of before) HearsIt old new × IsLossRefused e old new))
      → AreReceived (happened old) (map got ms) → AreReceived (happened new) (map got (slice_set ms k after))
  take_received (Ok u) at ok err h = did at ok h
  take_received (Err e) at ok (inr x) h = did at (heard_in stamp k (ports_of before) HearsIt old new x.0) h
  take_received (Err e) at ok (inl same) h =
      subst (λ t. AreReceived t (map got (slice_set ms k after))) (ap happened (sym same.0))
      (subst (AreReceived (happened old)) (sym (got_stays ms k before after at (ap got same.1))) h)
