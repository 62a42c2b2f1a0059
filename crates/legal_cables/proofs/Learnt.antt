-- What a seat knows after its station took a response.
use Rattle.std.proofs.Common.{◌≡◌, ℕ, zero, suc, ◌<◌, Bool, true, false, not, ◌&&◌, ◌==◌, if◌then◌else◌, List, ◌∷◌, Option, Some, None}
use Rattle.std.proofs.Common.{Contains, refl, sym, ap, ◌∙◌, subst, arith, find, length, map, eq-eqb}
use Rattle.std.specs.List.{list_any}
use Rattle.std.specs.Option.{option_or}
use Rattle.aarp.specs.Mapping.{Mappings, forgotten, learnt, mapping_of}
use Rattle.aarp.specs.declared.packet.Function.{Function}
use Rattle.aarp.specs.declared.packet.Function.TheVariants.{Probe, Request, Response}
use Rattle.aarp.specs.declared.packet.Packet.{Packet}
use Rattle.at_base.specs.Address.{same_address}
use Rattle.at_base.specs.declared.address.Addr.{Addr}
use Rattle.at_base.specs.declared.address.Hw.{Hw}
use Rattle.audit.proofs.WalkLists.{find_at}
use Rattle.audit.specs.Rules.{Passes}
use Rattle.table_image.specs.Bounds.{IsBounded}
use Rattle.table_image.specs.Internet.{Internet}
use Rattle.table_image.specs.Seats.{Seat as PlaceOf, seat_at, seats}
use Rattle.station.specs.Resolution.{if_response, packet_at, response_of}
use Rattle.station.specs.declared.heard.Kind.{Kind}
use Rattle.station.specs.declared.heard.Kind.TheVariants.{Aarp, Ddp}
use Rattle.cable_model.specs.Pending.{Pair, pending}
use Rattle.cable_model.specs.Transcript.{Entry, Frame}
use Rattle.legal_runs.specs.Stations.{cable_seats}
use Rattle.legal_runs.proofs.Legs.{same_address_is, same_address_self, seat_there}
use Rattle.resolved_runs.specs.Mapped.{answers_for, given, hardware_of, learnt_in, mapping_in, own_hardware}
use Rattle.resolved_runs.proofs.Elements.{In, any_in, in_kept, kept_in}
use Rattle.resolved_runs.proofs.Told.{IsSeated, IsTold}
use Rattle.resolved_runs.proofs.Truths.{known_true, packet_told}
use Rattle.legal_cables.specs.Keeping.{IsKept}
use Rattle.legal_cables.proofs.Effects.{or_assoc, or_none}
use Rattle.legal_cables.proofs.Kept.{as_held}
use Rattle.legal_cables.proofs.Known.{first_once, mapped_in, mapping_learnt, once_learnt}
use Rattle.legal_cables.proofs.Pigeons.{few_seats, pigeons, seats_on}
use Rattle.legal_cables.proofs.Took.{held_then, learnt_then, pair_was_put, taken, tells}

-- The packet of a frame that holds a response.
pub record IsAnswer (f : Frame) (sent : Packet) : Type 0 where
  pub kind : f.kind ≡ Aarp
  pub read : packet_at f.bytes ≡ Some sent
  pub function : sent.function ≡ Response

pub answer_is : (f : Frame) (sent : Packet) → response_of f.kind (packet_at f.bytes) ≡ Some sent → IsAnswer f sent
answer_is f sent h = kinds f.kind (packet_at f.bytes) refl refl h
  where
    functions : (q : Packet) (g : Function) → q.function ≡ g → if_response q g ≡ Some sent → (q ≡ sent) × (sent.function ≡ Response)
    functions q Request e h = cc
    functions q Probe e h = cc
    functions q Response e h = let same : q ≡ sent = cc in (same, ap (λ (x : Packet). x.function) (sym same) ∙ e)

    kinds : (k : Kind) (o : Option Packet) → f.kind ≡ k → packet_at f.bytes ≡ o → response_of k o ≡ Some sent → IsAnswer f sent
    kinds Ddp o ek eo h = cc
    kinds Aarp None ek eo h = cc
    kinds Aarp (Some q) ek eo h =
        let w = functions q q.function refl h in
        record { kind = ek; read = eo ∙ ap Some w.0; function = w.1 }

module _ (i : Internet) (ok : Passes i) (bounded : IsBounded i) (t : List Entry) (told : IsTold i t) (p : Pair)
    (there : Contains (pending (cable_seats i) t) p) (sent : Packet)
    (is : response_of p.frame.kind (packet_at p.frame.bytes) ≡ Some sent) where
  abbrev s : ℕ
  s = p.seat.station

  abbrev c : ℕ
  c = p.frame.cable

  -- The response tells the truth.
  source_seated : IsSeated i c sent.source sent.source_hw
  source_seated =
      let a = answer_is p.frame sent is in
      let w = packet_told i t p.frame told (pair_was_put i t told p there) a.kind in
      let one : w.sent ≡ sent = same_some w.sent sent (sym w.read ∙ a.read) in
      let r = w.answers (ap (λ (x : Packet). x.function) one ∙ a.function) in
      record {
        seat = r.seat;
        found = ap (λ (x : Packet). seat_at i c x.source) (sym one) ∙ r.found;
        hardware = ap (λ (x : Packet). x.source_hw) (sym one) ∙ r.hardware;
      }
    where
      same_some : (x y : Packet) → Some x ≡ Some y → x ≡ y
      same_some x y e = cc

  told_that : (a : Addr) → tells i t told p there s c a ≡ (if same_address a sent.source then Some sent.source_hw else None)
  told_that a = by (s == s) (c == c) (eq-eqb s s refl) (eq-eqb c c refl)
    where
      by : (x y : Bool) → x ≡ true → y ≡ true
          → (if x then answers_for a (if y then response_of p.frame.kind (packet_at p.frame.bytes) else None) else None)
          ≡ (if same_address a sent.source then Some sent.source_hw else None)
      by true true ex ey = ap (answers_for a) is
      by false y ex ey = cc
      by true false ex ey = cc

  module _ (m : Mappings) (kept : IsKept i t s c m) where
    -- What the seat knew of an address that isn't its station's own.
    knew : (a : Addr) (hw : Hw) → own_hardware i s c a ≡ None → mapping_of a m.known ≡ Some hw → IsSeated i c a hw
    knew a hw not_own e =
        known_true i ok t told c a hw s
        (ap (λ o. option_or o (option_or (mapping_in a (given i s c)) (learnt_in t s c a t))) not_own
        ∙ (sym (kept.known a not_own) ∙ e))

    -- Two truths about an address are one.
    one_truth : (a : Addr) (x y : Hw) → IsSeated i c a x → IsSeated i c a y → x ≡ y
    one_truth a x y p q =
        let same : p.seat ≡ q.seat = same_seat p.seat q.seat (sym p.found ∙ q.found) in
        p.hardware ∙ (ap (λ (z : PlaceOf). z.hardware) same ∙ sym q.hardware)
      where
        same_seat : (x y : PlaceOf) → Some x ≡ Some y → x ≡ y
        same_seat x y e = cc

    -- A seat on the cable with this address.
    on_cable : (a : Addr) (hw : Hw) → IsSeated i c a hw
        → list_any (λ (q : PlaceOf). same_address q.address a) (seats_on i ok bounded c) ≡ true
    on_cable a hw w =
        let at = seat_there i c a w.seat w.found in
        any_in (λ (q : PlaceOf). same_address q.address a) (seats_on i ok bounded c) w.seat
        (in_kept (λ (q : PlaceOf). q.cable == c) (seats i) w.seat (at.place, at.at) (eq-eqb w.seat.cable c at.cable_is))
        (ap (λ x. same_address x a) at.address ∙ same_address_self a)

    own_on_cable : (a : Addr) (o : Option PlaceOf)
        → find (λ (q : PlaceOf). q.station == s && q.cable == c && same_address a q.address) (seats i) ≡ o
        → (hw : Hw) → hardware_of o ≡ Some hw
        → list_any (λ (q : PlaceOf). same_address q.address a) (seats_on i ok bounded c) ≡ true
    own_on_cable a None e hw h = cc
    own_on_cable a (Some q) e hw h =
        let w = find_at (λ (q : PlaceOf). q.station == s && q.cable == c && same_address a q.address) (seats i) q e in
        let r = three (q.station == s) (q.cable == c) (same_address a q.address) w.2 in
        any_in (λ (q : PlaceOf). same_address q.address a) (seats_on i ok bounded c) q
        (in_kept (λ (q : PlaceOf). q.cable == c) (seats i) q (w.0, w.1) r.0)
        (ap (λ x. same_address x a) (sym (same_address_is a q.address r.1)) ∙ same_address_self a)
      where
        three : (x y z : Bool) → (x && y && z) ≡ true → (y ≡ true) × (z ≡ true)
        three true true true h = (refl, refl)
        three true true false h = cc
        three true false z h = cc
        three false y z h = cc

    known_on_cable : (x : Addr × Hw) → In m.known x
        → list_any (λ (q : PlaceOf). same_address q.address x.0) (seats_on i ok bounded c) ≡ true
    known_on_cable x among = by (own_hardware i s c x.0) refl
      where
        by : (o : Option Hw) → own_hardware i s c x.0 ≡ o
            → list_any (λ (q : PlaceOf). same_address q.address x.0) (seats_on i ok bounded c) ≡ true
        by (Some hw) e = own_on_cable x.0 _ refl hw e
        by None e = let w = mapped_in m.known x among in on_cable x.0 w.0 (knew x.0 w.0 e w.1)

    -- Nothing is discarded.
    few : length (forgotten sent.source m.known) < 512
    few =
        let le = pigeons (λ (q : PlaceOf) (x : Addr × Hw). same_address q.address x.0) (seats_on i ok bounded c)
        ((sent.source, sent.source_hw) ∷ forgotten sent.source m.known)
        (λ q. first_once sent.source sent.source_hw m.known kept.once q.address) each in
        let most = few_seats i ok bounded c in
        omega (arith, le, most)
      where
        each : (x : Addr × Hw) → In ((sent.source, sent.source_hw) ∷ forgotten sent.source m.known) x
            → list_any (λ (q : PlaceOf). same_address q.address x.0) (seats_on i ok bounded c) ≡ true
        each x (zero, e) =
            let same : (sent.source, sent.source_hw) ≡ x = cc in
            subst (λ (y : Addr × Hw). list_any (λ (q : PlaceOf). same_address q.address y.0) (seats_on i ok bounded c) ≡ true) same
            (on_cable sent.source sent.source_hw source_seated)
        each x (suc k, e) =
            known_on_cable x (kept_in (λ (y : Addr × Hw). not (same_address sent.source y.0)) m.known x (k, e)).0

    -- What the image has for an address, and what was learnt of it.
    abbrev of_image : Addr → Option Hw
    of_image a = mapping_in a (given i s c)

    abbrev learnt_before : Addr → Option Hw
    learnt_before a = learnt_in t s c a t

    -- What the seat knows then of an address.
    known_then : (a : Addr) → own_hardware i s c a ≡ None
        → mapping_of a (learnt sent.source sent.source_hw m.known)
        ≡ option_or (mapping_in a (given i s c)) (learnt_in (taken i t told p there) s c a (taken i t told p there))
    known_then a not_own =
        mapping_learnt sent.source sent.source_hw m.known few a
        ∙ (by (same_address a sent.source) refl (mapping_of a m.known) refl
        ∙ sym (ap (option_or (of_image a)) (learnt_then i t told p there s c a ∙ ap (option_or (learnt_before a)) (told_that a))))
      where
        by : (b : Bool) → same_address a sent.source ≡ b → (o : Option Hw) → mapping_of a m.known ≡ o
            → (if b then Some sent.source_hw else mapping_of a m.known)
            ≡ option_or (of_image a) (option_or (learnt_before a) (if b then Some sent.source_hw else None))
        by false e o eo = kept.known a not_own ∙ ap (option_or (of_image a)) (sym (or_none (learnt_before a)))
        by true e None eo =
            sym (or_assoc (of_image a) (learnt_before a) (Some sent.source_hw) ∙ ap (λ x. option_or x (Some sent.source_hw)) (sym (kept.known a not_own) ∙ eo))
        by true e (Some hw) eo =
            let same : sent.source_hw ≡ hw = one_truth a sent.source_hw hw
            (subst (λ x. IsSeated i c x sent.source_hw) (sym (same_address_is a sent.source e)) source_seated) (knew a hw not_own eo) in
            ap Some same
            ∙ sym (or_assoc (of_image a) (learnt_before a) (Some sent.source_hw) ∙ ap (λ x. option_or x (Some sent.source_hw)) (sym (kept.known a not_own) ∙ eo))

    -- The seat after it learnt the response, with what it held.
    pub kept_learnt : IsKept i (taken i t told p there) s c (record m { known = learnt sent.source sent.source_hw m.known })
    kept_learnt = record {
      known = known_then;
      once = once_learnt sent.source sent.source_hw m.known few kept.once;
      held = kept.held ∙ ap (map as_held) (sym (held_then i t told p there s c));
    }
