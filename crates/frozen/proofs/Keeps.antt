-- After an event, a run is still a run over frozen tables.
use Rattle.std.proofs.Common.{Contains, List, [], ap, inl, inr, refl, drop, slice_set, subst, suc, sym, zero, ℕ, ◌++◌, ◌∙◌, ◌∷◌, ◌≡◌, ◌⊎◌}
use Rattle.std.proofs.lemmas.List.{append-nil, append_cancel_left, length-set}
use Rattle.std.specs.Option.{unwrap_or}
use Rattle.audit.proofs.WalkLists.{At}
use Rattle.audit.specs.Rules.{Passes}
use Rattle.cable_model.specs.Logs.{Cabling, transcript as said}
use Rattle.cable_model.specs.Outcomes.{all_entries, heard_by, leg as leg_on}
use Rattle.cable_model.specs.Pending.{Pair, pending}
use Rattle.cable_model.specs.Transcript.{Entry, Sent, Took, next_stamp, stamps}
use Rattle.cable_model.proofs.Stamps.{numbered_stamp}
use Rattle.ddp.specs.Bodies.{body}
use Rattle.end_node.specs.Answers.{Hears as NodeHears}
use Rattle.end_node.specs.Holding.{NodeHolding}
use Rattle.frozen.specs.Events.{SentBy}
use Rattle.frozen.specs.Orders.{IsFair, bytes_for}
use Rattle.frozen.specs.Promises.{HaveOnlyAsked}
use Rattle.frozen.specs.Runs.{AddsBlock, IsBlockOn, IsFrozen, IsLegalOn, Running, TakenBy, TakenFrom, cabling}
use Rattle.frozen.specs.declared.order.Order.{Order}
use Rattle.image_stations.specs.Holders.{HoldStations, HoldsStation}
use Rattle.station.specs.Members.{EitherHears}
use Rattle.station.specs.declared.member.Member.{Member}
use Rattle.station.specs.declared.member.Member.TheVariants as member
use Rattle.legal_stations.proofs.Leaving.{sendings}
use Rattle.legal_stations.proofs.Making.{IsSent}
use Rattle.legal_stations.proofs.NodeTakes.{node_takes}
use Rattle.legal_stations.proofs.RouterTakes.{router_takes}
use Rattle.legal_runs.proofs.Frames.{whole}
use Rattle.legal_runs.proofs.Runs.{legal_numbered}
use Rattle.legal_cables.proofs.Beginning.{begins}
use Rattle.legal_cables.proofs.Members.{legal_then, station_takes}
use Rattle.legal_cables.proofs.Stations.{node_sends}
use Rattle.legal_runs.specs.Answers.{IsMade, IsOwn}
use Rattle.legal_runs.specs.Legal.{Begins, Block, Continues, IsLegal}
use Rattle.legal_runs.specs.Legs.{Leg, places_of}
use Rattle.legal_runs.specs.Stations.{cable_seats}
use Rattle.legal_runs.specs.Lookups.{is_unasked}
use Rattle.legal_stations.proofs.Unasked.{block_none, resolved_block_none, resolved_leg_none, sent_leg, unasked}
use Rattle.live_cables.specs.Finding.{places_of as places_known}
use Rattle.live_cables.specs.Living.{Wires, knowing}
use Rattle.resolved_runs.specs.ResolvedRuns as resolved
use Rattle.resolved_runs.specs.Resolved.{resolved_leg}
use Rattle.resolved_runs.specs.ResolvedRuns.{IsLegalResolved, ResolvedBlock}
use Rattle.router.specs.Answers.{Hears as RouterHears}
use Rattle.router.specs.Holding.{Holding}
use Rattle.run_cables.specs.Wired.{AreFresh, IsSentOn, cabling_of, happened}
use Rattle.run_cables.specs.declared.wiring.Wiring.{Wiring}
use Rattle.run_cables.specs.declared.wiring.Wiring.TheVariants.{Asking, Known}
use Rattle.station.specs.Lawful.{AreLawful, count}
use Rattle.station.specs.declared.output.Output.{Output}
use Rattle.table_image.specs.Bounds.{IsBounded}
use Rattle.table_image.specs.Internet.{Internet}

-- An element of a list in which one element was replaced.
set_at : {X : Type 0} (xs : List X) (s : ℕ) (a : X) (k : ℕ) (m : X) → At (slice_set xs s a) k m
    → ((k ≡ s) × (a ≡ m)) ⊎ At xs k m
set_at [] s a k m h = inr h
set_at (x ∷ xs) zero a zero m h = inl (refl, ap (λ o. unwrap_or o a) h)
set_at (x ∷ xs) zero a (suc k) m h = inr h
set_at (x ∷ xs) (suc s) a zero m h = inr h
set_at (x ∷ xs) (suc s) a (suc k) m h = elim (set_at xs s a k m h) [
  | inl e ↦ inl (ap suc e.0, e.1)
  | inr e ↦ inr e
]

-- The stations of an internet with one replaced by a station that also holds the image's contents.
hold_with : (i : Internet) (xs : List (Member Holding NodeHolding)) (s : ℕ) (a : Member Holding NodeHolding) → HoldStations i xs
    → HoldsStation i s a → HoldStations i (slice_set xs s a)
hold_with i xs s a all holds = record {
  number = length-set xs s a ∙ all.number;
  each = λ k m at. elim (set_at xs s a k m at) [
    | inl e ↦ subst (HoldsStation i k) e.1 (subst (λ n. HoldsStation i n a) (sym e.0) holds)
    | inr e ↦ all.each k m e
  ];
}

-- A station that takes a frame makes a block of a legal transcript and still holds the image's contents.
member_takes : (i : Internet) (t : List Entry) (p : Pair) (n : ℕ) (old new : Member Holding NodeHolding) (added : List Output)
    → Passes i → IsBounded i → IsLegal i t → Contains (pending (cable_seats i) t) p → HoldsStation i p.seat.station old
    → EitherHears RouterHears NodeHears old (heard_by p) added new → AreLawful n added
    → Block i t (Took p.frame.stamp p.seat.station
    ∷ all_entries (places_of i) (cable_seats i) p.seat.station (stamps t) added)
    × HoldsStation i p.seat.station new
member_takes i t p n (member.Router h) (member.Router g) added ok bounded legal there holds hears lawful =
    router_takes i t p n h g added ok bounded legal there holds hears lawful
member_takes i t p n (member.Node h) (member.Node g) added ok bounded legal there holds hears lawful =
    let w = node_takes i t p holds.0 n h g added ok legal there holds.1 holds.2 hears lawful in
    (w.0, (holds.0, holds.1, w.1))
member_takes i t p n (member.Router h) (member.Node g) added ok bounded legal there holds hears lawful = absurd hears
member_takes i t p n (member.Node h) (member.Router g) added ok bounded legal there holds hears lawful = absurd hears

-- The next stamp where every hardware address is known is the number of frames.
next_of : (i : Internet) (c : Cabling) → Passes i → IsLegal i (said c) → next_stamp (said c) ≡ stamps (said c)
next_of i c ok legal = numbered_stamp (said c) (legal_numbered i (said c) ok legal)

-- ---- The beginning

-- The transcript of fresh cables is legal.
fresh_legal : (i : Internet) → Passes i → IsBounded i → (limit : ℕ) (w : Wiring) → AreFresh i limit w
    → ((cabling_of w).seats ≡ cable_seats i) × (happened w ≡ []) × IsLegalOn i w
fresh_legal i ok bounded limit (Known c) fresh = (
  ap (λ (k : Cabling). k.seats) fresh.1,
  ap said fresh.1,
  (fresh.0, subst (λ k. IsLegal i (said k)) (sym fresh.1) Begins),
)
fresh_legal i ok bounded limit (Asking w) fresh =
    let seats = ap (λ (x : Wires). x.cabling.seats) fresh.2 in (
      seats,
      ap (λ (x : Wires). said x.cabling) fresh.2,
      (
        fresh.0,
        fresh.1,
        subst (λ x. IsLegalResolved i (said x.cabling)) (sym fresh.2) resolved.Begins,
        begins i ok bounded w seats (ap (λ (x : Wires). x.cabling.lines) fresh.2) (ap (λ (x : Wires). x.own) fresh.2)
            (ap (λ (x : Wires). x.maps) fresh.2) (ap (λ (x : Wires). x.ranges) fresh.2),
      ),
    )

-- The limit of fresh cables.
pub begun_limit : (i : Internet) (limit : ℕ) (w : Wiring) → AreFresh i limit w → (cabling_of w).limit ≡ limit
begun_limit i limit (Known c) fresh = ap (λ (k : Cabling). k.limit) fresh.1
begun_limit i limit (Asking w) fresh = ap (λ (x : Wires). x.cabling.limit) fresh.2

-- A run with an empty transcript.
pub begun : (i j : Internet) (stations : List (Member Holding NodeHolding)) (w : Wiring) (limit : ℕ) → j ≡ i → AreFresh i limit w
    → Passes i → IsBounded i → HoldStations i stations → IsFrozen (record { internet = j; stations = stations; wiring = w })
begun i j stations w limit same fresh ok bounded holders =
    let f = fresh_legal i ok bounded limit w fresh in
    subst (λ k. IsFrozen (record { internet = k; stations = stations; wiring = w })) (sym same)
    (record { passes = ok; bounded = bounded; holders = holders; seats = f.0; legal = f.2 })

-- In a run with an empty transcript, no node has asked.
pub begun_asks : (i j : Internet) (stations : List (Member Holding NodeHolding)) (w : Wiring) (limit : ℕ) → AreFresh i limit w
    → Passes i → IsBounded i → HaveOnlyAsked (record { internet = j; stations = stations; wiring = w })
begun_asks i j stations w limit fresh ok bounded =
    ap (count (is_unasked j)) ((fresh_legal i ok bounded limit w fresh).1)

-- ---- Takes

-- What a take leaves: the stations' contents, a legal transcript, and entries in which no node sends a forward request or a
-- lookup.
pub record TookOn (i : Internet) (x y : Wiring) (others : List (Member Holding NodeHolding)) : Type 0 where
  pub holders : HoldStations i others
  pub seats : (cabling_of y).seats ≡ cable_seats i
  pub legal : IsLegalOn i y
  pub block : List Entry
  pub lawful : IsBlockOn i x block
  pub added : happened y ≡ happened x ++ block
  pub none : unasked i block ≡ 0

took_on : (i : Internet) → Passes i → IsBounded i → (st others : List (Member Holding NodeHolding)) (x y : Wiring) (stamp s : ℕ)
    → HoldStations i st → (cabling_of x).seats ≡ cable_seats i → IsLegalOn i x → TakenFrom (places_of i) st x stamp s others y
    → TookOn i x y others
took_on i ok bounded st others (Known a) (Known b) stamp s all seats legal w =
    let t = said a in
    let x = w.taken in
    let p = x.pair in
    let there : Contains (pending (cable_seats i) t) p = subst (λ l. Contains (pending l t) p) seats x.was_pending in
    let holds : HoldsStation i p.seat.station w.member =
    subst (λ n. HoldsStation i n w.member) (sym x.of_station) (all.each s w.member w.known) in
    let m = member_takes i t p _ w.member w.after x.added ok bounded legal.1 there holds x.heard x.lawful in
    let others_of : List Entry = all_entries (places_of i) a.seats s (stamps t) x.added in
    let block : Block i t (Took stamp s ∷ others_of) =
    subst (λ n. Block i t (Took n s ∷ others_of)) x.of_stamp
    (subst (λ n. Block i t (Took p.frame.stamp n ∷ all_entries (places_of i) a.seats n (stamps t) x.added)) x.of_station
    (subst (λ l. Block i t (Took p.frame.stamp p.seat.station ∷ all_entries (places_of i) l p.seat.station (stamps t) x.added))
    (sym seats) m.0)) in
    let added : said b ≡ t ++ Took stamp s ∷ others_of =
    x.entries.added
    ∙ ap (λ n. t ++ Took stamp s ∷ all_entries (places_of i) a.seats s n x.added) (next_of i a ok legal.1) in
    record {
      holders =
          subst (HoldStations i) (sym w.changed)
          (hold_with i st s w.after all (subst (λ n. HoldsStation i n w.after) x.of_station m.1));
      seats = x.entries.seats ∙ seats;
      legal = (legal.0, subst (IsLegal i) (sym added) (Continues t (Took stamp s ∷ others_of) legal.1 block));
      block = Took stamp s ∷ others_of;
      lawful = block;
      added = added;
      none = block_none i t (Took stamp s ∷ others_of) block stamp s others_of refl;
    }
took_on i ok bounded st others (Asking a) (Asking b) stamp s all seats legal w =
    let m = station_takes i ok bounded legal.1 a b stamp s _ legal.2 legal.3 w.member w.after (all.each s w.member w.known) w.taken in
    let r = m.0.all in
    record {
      holders = subst (HoldStations i) (sym w.changed) (hold_with i st s w.after all m.1);
      seats = r.adds.seats ∙ seats;
      legal = (legal.0, legal.1, legal_then i a b legal.2 r, r.keeps);
      block = r.block;
      lawful = r.legal;
      added = r.adds.added;
      none = resolved_block_none i (said a.cabling) r.block r.legal stamp s m.0.rest m.0.first;
    }
took_on i ok bounded st others (Known a) (Asking b) stamp s all seats legal w = absurd w.taken
took_on i ok bounded st others (Asking a) (Known b) stamp s all seats legal w = absurd w.taken

pub took_so : (old new : Running) (stamp s : ℕ) → IsFrozen old → TakenBy old stamp s new
    → TookOn old.internet old.wiring new.wiring new.stations
took_so old new stamp s frozen taken =
    took_on old.internet frozen.passes frozen.bounded old.stations new.stations old.wiring new.wiring stamp s frozen.holders
    frozen.seats frozen.legal taken.taken

pub took_block : (old new : Running) (stamp s : ℕ) → IsFrozen old → TakenBy old stamp s new → AddsBlock old new
took_block old new stamp s frozen taken =
    let so = took_so old new stamp s frozen taken in
    record { block = so.block; legal = so.lawful; added = so.added }

-- A run over the same tables.
frozen_of : (r : Running) (i : Internet) → r.internet ≡ i → Passes i → IsBounded i → HoldStations i r.stations
    → (cabling r).seats ≡ cable_seats i → IsLegalOn i r.wiring → IsFrozen r
frozen_of r i e ok bounded holders seats legal = record {
  passes = subst Passes (sym e) ok;
  bounded = subst IsBounded (sym e) bounded;
  holders = subst (λ j. HoldStations j r.stations) (sym e) holders;
  seats = seats ∙ ap cable_seats (sym e);
  legal = subst (λ j. IsLegalOn j r.wiring) (sym e) legal;
}

-- The invariant after a take.
pub took_keeps : (old new : Running) (stamp s : ℕ) → IsFrozen old → TakenBy old stamp s new → IsFrozen new
took_keeps old new stamp s frozen taken =
    let so = took_so old new stamp s frozen taken in
    frozen_of new old.internet taken.internet frozen.passes frozen.bounded so.holders so.seats so.legal

-- ---- Sendings

-- A legal block that begins with a sending has no forward request or lookup after it.
sent_none : (i : Internet) (t b : List Entry) → ResolvedBlock i t b → (s : ℕ) (bytes : List ℕ) (rest : List Entry)
    → b ≡ Sent s bytes ∷ rest → unasked i rest ≡ 0
sent_none i t b (resolved.Sends l made own) s bytes rest e =
    let leg = resolved_leg i (t ++ Sent l.station l.body ∷ []) l in
    let is : leg ++ [] ≡ rest = ap (drop 1) e in
    ap (unasked i) (sym is ∙ append-nil leg) ∙ resolved_leg_none i (t ++ Sent l.station l.body ∷ []) l
sent_none i t b (resolved.Takes p ls there kind made by answers) s bytes rest e = cc
sent_none i t b (resolved.Resolves p there kind) s bytes rest e = cc

-- What a sending leaves: a legal transcript, and after the sending no forward request or lookup.
pub record SentOver (i : Internet) (l : Leg) (x y : Wiring) : Type 0 where
  pub seats : (cabling_of y).seats ≡ cable_seats i
  pub legal : IsLegalOn i y
  pub rest : List Entry
  pub lawful : IsBlockOn i x (Sent l.station (body l.body) ∷ rest)
  pub added : happened y ≡ happened x ++ Sent l.station (body l.body) ∷ rest
  pub none : unasked i rest ≡ 0

sent_on : (i : Internet) → Passes i → (l : Leg) → IsMade i l → IsOwn i l → (x y : Wiring) → (cabling_of x).seats ≡ cable_seats i
    → IsLegalOn i x → IsSentOn (places_of i) l.station l.cable l.next l.body x y → SentOver i l x y
sent_on i ok l made own (Known a) (Known b) seats legal adds =
    let t = said a in
    let out = leg_on (places_of i) (record { stamp = next_stamp t; cable = l.cable; station = l.station }) l.next l.body in
    let is : body l.body ≡ l.body = (whole l.body made.whole).same in
    let with_stamp = subst (λ n. Block i t (Sent l.station l.body ∷ leg_on (places_of i)
    (record { stamp = n; cable = l.cable; station = l.station }) l.next l.body)) (sym (next_of i a ok legal.1)) (sendings i t l made own) in
    let block : Block i t (Sent l.station (body l.body) ∷ out) =
    subst (λ b. Block i t (Sent l.station b ∷ out)) (sym is) with_stamp in
    record {
      seats = adds.seats ∙ seats;
      legal = (legal.0, subst (IsLegal i) (sym adds.added) (Continues t _ legal.1 block));
      rest = out;
      lawful = block;
      added = adds.added;
      none = sent_leg i (places_of i) (record { stamp = next_stamp t; cable = l.cable; station = l.station }) l.next l.body;
    }
sent_on i ok l made own (Asking a) (Asking b) seats legal sent =
    let r = node_sends i ok legal.1 a b l legal.2 legal.3 made own sent in
    let by = sent.1 in
    let rest = leg_on (places_known (knowing a l.station))
    (record { stamp = next_stamp (said a.cabling); cable = l.cable; station = l.station }) l.next l.body ++ by.more in
    let first : r.block ≡ Sent l.station (body l.body) ∷ rest =
    append_cancel_left (said a.cabling) r.block (Sent l.station (body l.body) ∷ rest) (sym r.adds.added ∙ by.entries.added) in
    record {
      seats = r.adds.seats ∙ seats;
      legal = (legal.0, legal.1, legal_then i a b legal.2 r, r.keeps);
      rest = rest;
      lawful = subst (ResolvedBlock i (said a.cabling)) first r.legal;
      added = by.entries.added;
      none = sent_none i (said a.cabling) r.block r.legal l.station (body l.body) rest first;
    }
sent_on i ok l made own (Known a) (Asking b) seats legal none = absurd none
sent_on i ok l made own (Asking a) (Known b) seats legal none = absurd none

-- The leg by which a node sends by an order.
abbrev leg_by : Order → List ℕ → Leg
leg_by o payload = record { station = o.station; cable = o.cable; next = o.next; body = bytes_for o payload; hops = 0 }

pub sent_so : (old new : Running) (o : Order) (payload : List ℕ) → IsFrozen old → IsFair old.internet o → IsSent o.header payload
    → SentBy old o payload new → SentOver old.internet (leg_by o payload) old.wiring new.wiring
sent_so old new o payload frozen fair sent by =
    let l = leg_by o payload in
    let made : IsMade old.internet l = record {
      seated = fair.seated;
      whole = sent.is_body;
      fresh = refl;
      goes = fair.goes l refl refl sent.target_is;
    } in
    let own : IsOwn old.internet l = record {
      by_node = fair.by_node;
      handed = elim fair.handed [
        | inl e ↦ inl (ap (λ a. a.net) sent.target_is ∙ e)
        | inr e ↦ inr e
      ];
    } in
    sent_on old.internet frozen.passes l made own old.wiring new.wiring frozen.seats frozen.legal by.sent

-- The invariant after a datagram was sent.
pub sent_keeps : (old new : Running) (o : Order) (payload : List ℕ) → IsFrozen old → IsFair old.internet o → IsSent o.header payload
    → SentBy old o payload new → IsFrozen new
sent_keeps old new o payload frozen fair sent by =
    let so = sent_so old new o payload frozen fair sent by in
    frozen_of new old.internet by.internet frozen.passes frozen.bounded
    (subst (HoldStations old.internet) (sym by.stations) frozen.holders) so.seats so.legal

pub sent_block : (old new : Running) (o : Order) (payload : List ℕ) → IsFrozen old → IsFair old.internet o → IsSent o.header payload
    → SentBy old o payload new → AddsBlock old new
sent_block old new o payload frozen fair sent by =
    let so = sent_so old new o payload frozen fair sent by in
    record { block = Sent o.station (body (bytes_for o payload)) ∷ so.rest; legal = so.lawful; added = so.added }
