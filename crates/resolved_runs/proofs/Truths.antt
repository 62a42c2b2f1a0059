-- What a station knows of hardware addresses is true.
use Rattle.std.proofs.Common.{◌≡◌, ◌⊎◌, inl, inr, ℕ, zero, suc, Bool, true, false, ◌&&◌, ◌==◌, cond, if◌then◌else◌, nat_lt, ◌-◌, List, [], ◌∷◌}
use Rattle.std.proofs.Common.{Option, Some, None, refl, sym, ap, ◌∙◌, subst, find, length, slice_get, eqb-true, eq-eqb}
use Rattle.std.specs.Option.{option_or}
use Rattle.at_base.specs.Address.{same_address}
use Rattle.at_base.specs.declared.address.Addr.{Addr}
use Rattle.at_base.specs.declared.address.Hw.{Hw}
use Rattle.aarp.specs.declared.packet.Function.{Function}
use Rattle.aarp.specs.declared.packet.Function.TheVariants.{Probe, Request, Response}
use Rattle.aarp.specs.declared.packet.Packet.{Packet}
use Rattle.table_image.specs.Internet.{Internet}
use Rattle.table_image.specs.Seats.{Seat, seat_at, seats}
use Rattle.table_image.specs.declared.mapping.Mapping.{Mapping}
use Rattle.table_image.specs.declared.node.Node.{Node}
use Rattle.table_image.specs.declared.port.Port.{Port}
use Rattle.table_image.specs.declared.router.Router.{Router}
use Rattle.audit.specs.Mapped.{IsMapped}
use Rattle.audit.specs.Rules.{Passes}
use Rattle.audit.proofs.Finding.{any_from}
use Rattle.audit.proofs.MappingsTrue.{mappings_true}
use Rattle.audit.proofs.SeatUnique.{unique}
use Rattle.audit.proofs.WalkLists.{at_one, find_at, find_found}
use Rattle.station.specs.Resolution.{if_response, packet_at, response_of}
use Rattle.station.specs.declared.heard.Kind.{Kind}
use Rattle.station.specs.declared.heard.Kind.TheVariants.{Aarp, Ddp}
use Rattle.cable_model.specs.Transcript.{Entry, Frame, Sent, Put, Took, Reached, Dropped, Lost, Hold}
use Rattle.cable_model.proofs.Counting.{At}
use Rattle.legal_runs.specs.Stations.{node_of}
use Rattle.legal_runs.proofs.Legs.{same_address_is, same_address_self, seat_there}
use Rattle.resolved_runs.specs.Mapped.{answers_for, frame_of, given, given_to, hardware_of, known, learnt_in, mapping_in, own_hardware}
use Rattle.resolved_runs.specs.Mapped.{port_mappings, response_on}
use Rattle.resolved_runs.proofs.Elements.{In, in_one, in_parts}
use Rattle.resolved_runs.proofs.Told.{Fact, IsAarp, IsDropped, IsHeld, IsLost, IsNew, IsPacket, IsReached, IsReleased, IsSeated, IsSent, IsTold}
use Rattle.resolved_runs.proofs.Told.{IsTook, More, Nothing}

-- ---- Frames that were put

-- A frame that is found was put.
pub frame_put : (t : List Entry) (n : ℕ) (f : Frame) → frame_of n t ≡ Some f → In t (Put f) × (f.stamp ≡ n)
frame_put [] n f h = cc
frame_put (Put g ∷ es) n f h = by (frame_put es n f) (g.stamp == n) refl h
  where
    by : (frame_of n es ≡ Some f → In es (Put f) × (f.stamp ≡ n)) → (b : Bool) → (g.stamp == n) ≡ b
        → cond b (Some g) (frame_of n es) ≡ Some f → In (Put g ∷ es) (Put f) × (f.stamp ≡ n)
    by rest true same k =
        let one : g ≡ f = cc in
        ((zero, ap (λ g. Some (Put g)) one), ap (λ (g : Frame). g.stamp) (sym one) ∙ eqb-true g.stamp n same)
    by rest false same k = let w = rest k in ((suc w.0.0, w.0.1), w.1)
frame_put (Sent s b ∷ es) n f k = let w = frame_put es n f k in ((suc w.0.0, w.0.1), w.1)
frame_put (Took m s ∷ es) n f k = let w = frame_put es n f k in ((suc w.0.0, w.0.1), w.1)
frame_put (Reached c s w b ∷ es) n f k = let w = frame_put es n f k in ((suc w.0.0, w.0.1), w.1)
frame_put (Dropped r c b ∷ es) n f k = let w = frame_put es n f k in ((suc w.0.0, w.0.1), w.1)
frame_put (Lost m ∷ es) n f k = let w = frame_put es n f k in ((suc w.0.0, w.0.1), w.1)
frame_put (Hold d ∷ es) n f k = let w = frame_put es n f k in ((suc w.0.0, w.0.1), w.1)

-- An AARP frame of a told transcript is a packet that tells the truth.
pub packet_told : (i : Internet) (t : List Entry) (f : Frame) → IsTold i t → In t (Put f) → f.kind ≡ Aarp → IsPacket i f
packet_told i t f Nothing (k, e) kind = cc
packet_told i t f (More u e told fact) there kind = elim (in_parts u (e ∷ []) (Put f) there) as (λ _. IsPacket i f) [
  | inl before ↦ packet_told i u f told before kind
  | inr this ↦ here e fact (in_one e (Put f) this)
]
  where
    same_frame : (f g : Frame) → Put f ≡ Put g → f ≡ g
    same_frame f g e = cc

    not_both : (k : Kind) → k ≡ Ddp → k ≡ Aarp → IsPacket i f
    not_both k a b = let no : Ddp ≡ Aarp = sym a ∙ b in cc

    here : (e : Entry) → Fact i u e → e ≡ Put f → IsPacket i f
    here e (IsNew g k fresh) eq = not_both g.kind k (ap (λ (x : Frame). x.kind) (same_frame g f eq) ∙ kind)
    here e (IsAarp g k fresh packet) eq = subst (IsPacket i) (same_frame g f eq) packet
    here e (IsReleased h s still found) eq = not_both Ddp refl (ap (λ (x : Frame). x.kind) (same_frame _ f eq) ∙ kind)
    here e (IsSent s b) eq = cc
    here e (IsReached c s w b) eq = cc
    here e (IsDropped r c b) eq = cc
    here e (IsHeld h fresh) eq = cc
    here e (IsLost h still) eq = cc
    here e (IsTook p still) eq = cc

-- ---- Seats

module _ (i : Internet) (ok : Passes i) where
  -- A seat is the one that is found for its address on its cable.
  pub seat_is : (cable : ℕ) (a : Addr) (k : ℕ) (s : Seat) → At (seats i) k s → s.cable ≡ cable → s.address ≡ a → seat_at i cable a ≡ Some s
  seat_is cable a k s at here there =
      let passes : (s.cable == cable && same_address s.address a) ≡ true =
      ap (λ b. b && same_address s.address a) (eq-eqb s.cable cable here) ∙ (ap (λ x. same_address x a) there ∙ same_address_self a) in
      let w = find_found (λ s. s.cable == cable && same_address s.address a) (seats i)
      (any_from (λ (s : Seat). s.cable == cable && same_address s.address a) (seats i) k s at passes) in
      let f = seat_there i cable a w.0 w.1 in
      let alike : same_address w.0.address s.address ≡ true =
      ap (λ x. same_address x s.address) (f.address ∙ sym there) ∙ same_address_self s.address in
      let same : f.place ≡ k = (unique i ok).by_address f.place k w.0 s f.at at alike in
      let one : w.0 ≡ s = at_one (seats i) k w.0 s (subst (λ n. At (seats i) n w.0) same f.at) at in
      w.1 ∙ ap Some one

  -- ---- A station's own address

  three : (a b c : Bool) → (a && b && c) ≡ true → (a ≡ true) × (b ≡ true) × (c ≡ true)
  three true true true h = (refl, refl, refl)
  three true true false h = cc
  three true false c h = cc
  three false b c h = cc

  own_true : (station cable : ℕ) (a : Addr) (hw : Hw) → own_hardware i station cable a ≡ Some hw → IsSeated i cable a hw
  own_true station cable a hw h =
      by (find (λ (s : Seat). s.station == station && s.cable == cable && same_address a s.address) (seats i)) refl h
    where
      by : (o : Option Seat) → find (λ (s : Seat). s.station == station && s.cable == cable && same_address a s.address) (seats i) ≡ o
          → hardware_of o ≡ Some hw → IsSeated i cable a hw
      by None e g = cc
      by (Some s) e g =
          let w = find_at (λ (s : Seat). s.station == station && s.cable == cable && same_address a s.address) (seats i) s e in
          let p = three (s.station == station) (s.cable == cable) (same_address a s.address) w.2 in
          let hardware : s.hardware ≡ hw = cc in
          record {
            seat = s;
            found = seat_is cable a w.0 s w.1 (eqb-true s.cable cable p.1) (sym (same_address_is a s.address p.2));
            hardware = sym hardware;
          }

  -- ---- Mappings of the image

  -- A mapping that is found is among them.
  mapping_there : (a : Addr) (ms : List Mapping) (hw : Hw) → mapping_in a ms ≡ Some hw
      → (k : ℕ) × (m : Mapping) × At ms k m × (a ≡ m.address) × (m.hardware ≡ hw)
  mapping_there a [] hw h = cc
  mapping_there a (m ∷ ms) hw h = by (mapping_there a ms hw) (same_address a m.address) refl h
    where
      by : (mapping_in a ms ≡ Some hw → (k : ℕ) × (n : Mapping) × At ms k n × (a ≡ n.address) × (n.hardware ≡ hw)) → (b : Bool) → same_address a m.address ≡ b → cond b (Some m.hardware) (mapping_in a ms) ≡ Some hw
          → (k : ℕ) × (n : Mapping) × At (m ∷ ms) k n × (a ≡ n.address) × (n.hardware ≡ hw)
      by rest true e g = let hardware : m.hardware ≡ hw = cc in (zero, m, refl, same_address_is a m.address e, hardware)
      by rest false e g = let w = rest g in (suc w.0, w.1, w.2, w.3, w.4)

  seated : (cable : ℕ) (a : Addr) (hw : Hw) (m : Mapping) → IsMapped i cable m → a ≡ m.address → m.hardware ≡ hw → IsSeated i cable a hw
  seated cable a hw m w same hardware = record {
    seat = w.seat;
    found = seat_is cable a w.index w.seat w.at w.here (w.address ∙ sym same);
    hardware = sym (w.hardware ∙ hardware);
  }

  given_true : (station cable : ℕ) (a : Addr) (hw : Hw) → mapping_in a (given i station cable) ≡ Some hw → IsSeated i cable a hw
  given_true station cable a hw h = by (slice_get i.routers station) (node_of i station) refl refl h
    where
      port : (router : Router) (o : Option Port) → slice_get i.routers station ≡ Some router
          → find (λ (p : Port). p.cable == cable) router.ports ≡ o → mapping_in a (port_mappings o) ≡ Some hw → IsSeated i cable a hw
      port router None er eo g = cc
      port router (Some p) er eo g =
          let w = find_at (λ (p : Port). p.cable == cable) router.ports p eo in
          let m = mapping_there a p.mappings hw g in
          seated cable a hw m.1
          (subst (λ c. IsMapped i c m.1) (eqb-true p.cable cable w.2)
          ((mappings_true i ok).ports station w.0 m.0 router p m.1 er w.1 m.2)) m.3 m.4

      node_at : (node : Node) (b : Bool)
          → (if b then None else slice_get i.nodes (station - length i.routers)) ≡ Some node
          → (n : ℕ) × (slice_get i.nodes n ≡ Some node)
      node_at node true e = cc
      node_at node false e = (station - length i.routers, e)

      node : (n : Node) (b : Bool) → (n.cable == cable) ≡ b → node_of i station ≡ Some n
          → mapping_in a (if b then n.mappings else []) ≡ Some hw → IsSeated i cable a hw
      node n true e en g =
          let m = mapping_there a n.mappings hw g in
          let w = node_at n (nat_lt station (length i.routers)) en in
          seated cable a hw m.1
          (subst (λ c. IsMapped i c m.1) (eqb-true n.cable cable e) ((mappings_true i ok).nodes w.0 m.0 n m.1 w.1 m.2)) m.3 m.4
      node n false e en g = cc

      by : (r : Option Router) (n : Option Node) → slice_get i.routers station ≡ r → node_of i station ≡ n
          → mapping_in a (given_to cable r n) ≡ Some hw → IsSeated i cable a hw
      by (Some router) n er en g = port router (find (λ (p : Port). p.cable == cable) router.ports) er refl g
      by None (Some n) er en g = node n (n.cable == cable) refl en g
      by None None er en g = cc

  -- ---- Responses

  -- A response in a frame is the packet in it.
  response_is : (f : Frame) (p : Packet) → response_of f.kind (packet_at f.bytes) ≡ Some p
      → (f.kind ≡ Aarp) × (packet_at f.bytes ≡ Some p) × (p.function ≡ Response)
  response_is f p h = kinds f.kind (packet_at f.bytes) refl refl h
    where
      functions : (q : Packet) (g : Function) → q.function ≡ g → if_response q g ≡ Some p → (q ≡ p) × (p.function ≡ Response)
      functions q Request e h = cc
      functions q Probe e h = cc
      functions q Response e h = let same : q ≡ p = cc in (same, ap (λ (x : Packet). x.function) (sym same) ∙ e)

      kinds : (k : Kind) (o : Option Packet) → f.kind ≡ k → packet_at f.bytes ≡ o → response_of k o ≡ Some p
          → (f.kind ≡ Aarp) × (packet_at f.bytes ≡ Some p) × (p.function ≡ Response)
      kinds Ddp o ek eo h = cc
      kinds Aarp None ek eo h = cc
      kinds Aarp (Some q) ek eo h =
          let w = functions q q.function refl h in
          (ek, eo ∙ ap Some w.0, w.1)

  -- What is learnt from a frame of a told transcript is true.
  module _ (t : List Entry) (told : IsTold i t) (cable : ℕ) (a : Addr) (hw : Hw) where
    from_packet : (f : Frame) (p : Packet) → In t (Put f) → f.cable ≡ cable → response_of f.kind (packet_at f.bytes) ≡ Some p
        → a ≡ p.source → p.source_hw ≡ hw → IsSeated i cable a hw
    from_packet f p put on is same hardware =
        let r = response_is f p is in
        let w = packet_told i t f told put r.0 in
        let one : w.sent ≡ p = same_some w.sent p (sym w.read ∙ r.1) in
        let s = w.answers (ap (λ (x : Packet). x.function) one ∙ r.2) in
        record {
          seat = s.seat;
          found =
              subst (λ c. seat_at i c a ≡ Some s.seat) on
              (ap (seat_at i f.cable) (same ∙ ap (λ (x : Packet). x.source) (sym one)) ∙ s.found);
          hardware = sym hardware ∙ (ap (λ (x : Packet). x.source_hw) (sym one) ∙ s.hardware);
        }
      where
        same_some : (x y : Packet) → Some x ≡ Some y → x ≡ y
        same_some x y e = cc

    from_answer : (f : Frame) (p : Packet) → In t (Put f) → f.cable ≡ cable → response_of f.kind (packet_at f.bytes) ≡ Some p
        → (b : Bool) → same_address a p.source ≡ b → (if b then Some p.source_hw else None) ≡ Some hw → IsSeated i cable a hw
    from_answer f p put on is true e g = from_packet f p put on is (same_address_is a p.source e) (let s : p.source_hw ≡ hw = cc in s)
    from_answer f p put on is false e g = cc

    from_response : (f : Frame) (o : Option Packet) → In t (Put f) → f.cable ≡ cable → response_of f.kind (packet_at f.bytes) ≡ o
        → answers_for a o ≡ Some hw → IsSeated i cable a hw
    from_response f None put on is g = cc
    from_response f (Some p) put on is g = from_answer f p put on is (same_address a p.source) refl g

    from_frame : (f : Frame) (b : Bool) → In t (Put f) → (f.cable == cable) ≡ b
        → answers_for a (if b then response_of f.kind (packet_at f.bytes) else None) ≡ Some hw → IsSeated i cable a hw
    from_frame f true put on g = from_response f (response_of f.kind (packet_at f.bytes)) put (eqb-true f.cable cable on) refl g
    from_frame f false put on g = cc

    from_stamp : (n : ℕ) (o : Option Frame) → frame_of n t ≡ o → answers_for a (response_on cable o) ≡ Some hw → IsSeated i cable a hw
    from_stamp n None e g = cc
    from_stamp n (Some f) e g = from_frame f (f.cable == cable) (frame_put t n f e).0 refl g

    from_took : (n : ℕ) (b : Bool)
        → (if b then answers_for a (response_on cable (frame_of n t)) else None) ≡ Some hw → IsSeated i cable a hw
    from_took n true g = from_stamp n (frame_of n t) refl g
    from_took n false g = cc

    first : (o rest : Option Hw) → option_or o rest ≡ Some hw → (o ≡ Some hw) ⊎ (rest ≡ Some hw)
    first None rest g = inr g
    first (Some x) rest g = inl g

    learnt_true : (station : ℕ) (es : List Entry) → learnt_in t station cable a es ≡ Some hw → IsSeated i cable a hw
    learnt_true station [] h = cc
    learnt_true station (Took n by ∷ es) h = elim (first (if by == station then answers_for a (response_on cable (frame_of n t)) else None)
        (learnt_in t station cable a es) h) as (λ _. IsSeated i cable a hw) [
          | inl here ↦ from_took n (by == station) here
          | inr later ↦ learnt_true station es later
        ]
    learnt_true station (Sent s b ∷ es) h = learnt_true station es h
    learnt_true station (Put f ∷ es) h = learnt_true station es h
    learnt_true station (Reached c s w b ∷ es) h = learnt_true station es h
    learnt_true station (Dropped r c b ∷ es) h = learnt_true station es h
    learnt_true station (Lost n ∷ es) h = learnt_true station es h
    learnt_true station (Hold d ∷ es) h = learnt_true station es h

    -- What a station knows is the hardware address of the seat with the address.
    pub known_true : (station : ℕ) → known i t station cable a ≡ Some hw → IsSeated i cable a hw
    known_true station h = elim (first (own_hardware i station cable a)
        (option_or (mapping_in a (given i station cable)) (learnt_in t station cable a t)) h) as (λ _. IsSeated i cable a hw) [
          | inl own ↦ own_true station cable a hw own
          | inr more ↦ elim (first (mapping_in a (given i station cable)) (learnt_in t station cable a t) more) as
              (λ _. IsSeated i cable a hw) [
                | inl mapped ↦ given_true station cable a hw mapped
                | inr learnt ↦ learnt_true station t learnt
              ]
        ]
