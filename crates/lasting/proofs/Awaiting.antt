-- What is held for another router's address on the same cable is waited for: a request for it is under way to that router, or
-- the router's response to the seat.
use Rattle.std.proofs.Common.{◌≡◌, ◌⊎◌, inl, inr, ℕ, suc, ◌<◌, ◌≤◌, ◌==◌, ◌&&◌, Bool, true, false, not, List, [], ◌∷◌, ◌++◌, Option, Some, None}
use Rattle.std.proofs.Common.{refl, sym, ap, ◌∙◌, subst, slice_get, append-nil, append_assoc, arith, eqb-true, eq-eqb}
use Rattle.std.proofs.lemmas.Bool.{and_from, and_parts, ne_eqb}
use Rattle.aarp.specs.Choosing.{Choice}
use Rattle.aarp.specs.Mapping.{Mappings}
use Rattle.aarp.specs.Packets.{packet, written}
use Rattle.aarp.specs.declared.packet.Function.TheVariants.{Response}
use Rattle.aarp.specs.declared.packet.Packet.{Packet}
use Rattle.aarp.specs.declared.held.Held.{Held as Waiter}
use Rattle.at_base.specs.Multicast.{all_hw}
use Rattle.at_base.specs.Spelling.{Spells}
use Rattle.at_base.specs.declared.address.Addr.{Addr}
use Rattle.audit.proofs.WalkLists.{At, at_one}
use Rattle.cable_model.proofs.Counting.{each-append}
use Rattle.cable_model.proofs.Stamps.{above_next, next_after}
use Rattle.cable_model.specs.Books.{EndsBelow}
use Rattle.cable_model.specs.Outcomes.{Held}
use Rattle.cable_model.specs.Outgoing.{asked, asked_bytes, held_entries, held_entry, let_go}
use Rattle.cable_model.specs.Pending.{Pair, is_for, is_heard, pending}
use Rattle.cable_model.specs.Transcript.{Entry, Frame, Put, next_stamp}
use Rattle.cable_model.specs.declared.resolve.HeldBy.{HeldBy}
use Rattle.cable_model.specs.declared.seat.Seat.{Seat}
use Rattle.lasting.proofs.Numbering.{gone_same}
use Rattle.lasting.proofs.Speaking.{calm_below, has_right, new_pending}
use Rattle.lasting.proofs.Staying.{calm_stays}
use Rattle.lasting.proofs.Stored.{asked_before, held_after, learnt_after, position_at}
use Rattle.lasting.specs.Resting.{IsBelow}
use Rattle.live_cables.proofs.Calm.{held_calm}
use Rattle.live_cables.proofs.Pending.{Has}
use Rattle.live_cables.specs.Finding.{Knowing, held_at, is_first_for, request_for, seat_on}
use Rattle.live_cables.specs.Holding.{Holds, IsRequest, with_learnt}
use Rattle.live_cables.specs.Steps.{are_calm}
use Rattle.live_cables.specs.declared.answer.Answer.{Answer}
use Rattle.station.specs.Resolution.{packet_at}
use Rattle.station.specs.declared.heard.Kind.TheVariants.{Aarp}

-- the frame has a request of this seat for an address
pub record IsAsking (s : Seat) (a : Addr) (f : Frame) : Type 0 where
  pub kind : f.kind ≡ Aarp
  pub own : Addr
  pub spelled : Spells packet f.bytes (written (request_for s.hw own a))

-- the frame has a response of the station that has an address
pub record IsTelling (a : Addr) (f : Frame) : Type 0 where
  pub kind : f.kind ≡ Aarp
  pub sent : Packet
  pub read : packet_at f.bytes ≡ Some sent
  pub is : sent.function ≡ Response
  pub source : sent.source ≡ a

-- a pair with a request of this seat for an address, for this other seat, or with the response, for the seat itself
abbrev pub IsAbout : Seat → Addr → Seat → Pair → Type 0
IsAbout s a z p = (IsAsking s a p.frame × (p.seat ≡ z)) ⊎ (IsTelling a p.frame × (p.seat ≡ s))

-- such a pair is pending
pub record IsUnderWay (seats : List Seat) (t : List Entry) (s : Seat) (a : Addr) (z : Seat) : Type 0 where
  pub p : Pair
  pub waits : Has (pending seats t) p
  pub about : IsAbout s a z p

-- it stays so while entries are added that end no pair
pub way_later : (seats : List Seat) (t es : List Entry) (s : Seat) (a : Addr) (z : Seat) → are_calm t es ≡ true → IsUnderWay seats t s a z
    → IsUnderWay seats (t ++ es) s a z
way_later seats t es s a z calm w = record { p = w.p; waits = calm_stays seats t es w.p w.waits calm; about = w.about }

-- The seat is that of another router's port on the same cable, which has the address. These are the ports of the stations,
-- and the first ones, so many of them, are routers.
pub record IsOwner (seats : List Seat) (ports : ℕ → List Choice) (routers : ℕ) (s : Seat) (a : Addr) (z : Seat) : Type 0 where
  pub has : Has seats z
  pub cable : z.cable ≡ s.cable
  pub other : z.station ≡ s.station → ⊥
  pub router : z.station < routers
  pub c : Choice
  pub c_at : At (ports z.station) z.port c
  pub is : c.tentative ≡ a

-- a frame to all is heard by another station's seat on its cable
pub all_hear : (f : Frame) (s z : Seat) → f.cable ≡ s.cable → f.sender ≡ s.station → f.to ≡ all_hw → z.cable ≡ s.cable → (z.station ≡ s.station → ⊥)
    → is_heard f z ≡ true
all_hear f s z cable sender to on other =
    let off : (z.station == f.sender) ≡ false = ne_eqb z.station f.sender (λ e. absurd (other (e ∙ sender))) in
    let heard : is_for f.to f.sender z ≡ true =
    subst (λ h. is_for h f.sender z ≡ true) (sym to) (ap not off) in
    and_from (z.cable == f.cable) _ (eq-eqb z.cable f.cable (on ∙ sym cable)) heard

module _ (seats : List Seat) (ports : ℕ → List Choice) (routers : ℕ) where
  -- the owner of an address on a seat's cable
  abbrev pub Owns : Seat → Addr → Seat → Type 0
  Owns s a z = IsOwner seats ports routers s a z

  -- At the seats below a bound, what is held for another router's address on the cable is waited for, or excused.
  abbrev pub AreWaited : (Seat → Addr → Seat → Type 0) → ℕ → List Entry → List Mappings → Type 0
  AreWaited Excused bound t maps =
      (j : ℕ) (s : Seat) → At seats j s → j < bound → s.station < routers → (x : Waiter) → Has (held_at maps j) x → (z : Seat) → Owns s x.next z
      → IsUnderWay seats t s x.next z ⊎ Excused s x.next z

  -- ---- A request that goes out

  -- a frame with a request that is put last is pending for the owner of the address
  pub request_waits : (t : List Entry) (f : Frame) (s : Seat) (a : Addr) (z : Seat) → IsBelow t → next_stamp t ≡ f.stamp → IsAsking s a f
      → f.cable ≡ s.cable → f.sender ≡ s.station → f.to ≡ all_hw → Owns s a z → IsUnderWay seats (t ++ Put f ∷ []) s a z
  request_waits t f s a z below stamp asks cable sender to own =
      let there = has_right t (Put f ∷ []) (Put f) (0, refl) in
      let le : next_stamp t ≤ f.stamp = omega (arith, stamp) in
      record {
        p = record { frame = f; seat = z };
        waits =
            new_pending seats (t ++ Put f ∷ []) (next_stamp t) there.0 f z (each-append (EndsBelow (next_stamp t)) t (Put f ∷ []) below (tt, tt)) le
            there.1 own.has (all_hear f s z cable sender to own.cable own.other);
        about = inl (asks, refl);
      }

  -- ---- A datagram that is held

  module _ (station : ℕ) (t : List Entry) (w : Held) (by : HeldBy) where
    -- the entries before the request end no pair
    first_calm : are_calm t (held_entry (next_stamp t) station w ∷ let_go t by.shed) ≡ true
    first_calm =
        let es = held_entries t station w (record by { ask = None }) in
        let calm : are_calm t es ≡ true =
        held_calm {X = Unit {0}} (λ x c a n b y. Unit {0}) station t (w ∷ []) tt es [] tt (record by { ask = None }, tt, refl, refl) in
        subst (λ l. are_calm t (held_entry (next_stamp t) station w ∷ l) ≡ true) (append-nil (let_go t by.shed)) calm

    -- neither does any of them
    pub all_calm : are_calm t (held_entries t station w by) ≡ true
    all_calm =
        held_calm {X = Unit {0}} (λ x c a n b y. Unit {0}) station t (w ∷ []) tt (held_entries t station w by)
        (asked_bytes by.ask) tt (by, tt, refl, refl)

    -- the request that it brings is under way
    pub asks_now : (s z : Seat) (own : Addr) (bytes : List ℕ) → IsBelow t → by.ask ≡ Some bytes → Spells packet bytes (written (request_for s.hw own w.next))
        → w.cable ≡ s.cable → station ≡ s.station → Owns s w.next z → IsUnderWay seats (t ++ held_entries t station w by) s w.next z
    asks_now s z own bytes below ask spelled cable of owner =
        let first = held_entry (next_stamp t) station w ∷ let_go t by.shed in
        let f : Frame =
        record { stamp = suc (next_stamp t); cable = w.cable; sender = station; to = all_hw; kind = Aarp; bytes = bytes } in
        let under : IsBelow (t ++ first) = calm_below t first below first_calm in
        let one : next_stamp (t ++ held_entry (next_stamp t) station w ∷ []) ≡ suc (next_stamp t) =
        next_after t (held_entry (next_stamp t) station w) ∙ above_next (next_stamp t) in
        let stamp : next_stamp (t ++ first) ≡ suc (next_stamp t) =
        ap next_stamp (sym (append_assoc t (held_entry (next_stamp t) station w ∷ []) (let_go t by.shed)))
        ∙ (gone_same t (t ++ held_entry (next_stamp t) station w ∷ []) by.shed ∙ one) in
        let way = request_waits (t ++ first) f s w.next z under stamp (record { kind = refl; own = own; spelled = spelled }) cable of refl owner in
        let same : (t ++ first) ++ Put f ∷ [] ≡ t ++ held_entries t station w by =
        append_assoc t first (Put f ∷ [])
        ∙ ap (λ o. t ++ (held_entry (next_stamp t) station w
        ∷ (let_go t by.shed ++ asked (record { stamp = suc (next_stamp t); cable = w.cable; station = station }) o))) (sym ask) in
        subst (λ l. IsUnderWay seats l s w.next z) same way

  -- ---- What is waited for stays so

  -- while entries are added that end no pair
  pub waited_later : (X : Seat → Addr → Seat → Type 0) (bound : ℕ) (t es : List Entry) (maps : List Mappings) → are_calm t es ≡ true
      → AreWaited X bound t maps → AreWaited X bound (t ++ es) maps
  waited_later X bound t es maps calm h j s e lt router x there z own = by (h j s e lt router x there z own)
    where
      by : IsUnderWay seats t s x.next z ⊎ X s x.next z → IsUnderWay seats (t ++ es) s x.next z ⊎ X s x.next z
      by (inl w) = inl (way_later seats t es s x.next z calm w)
      by (inr w) = inr w

  -- where a response is learnt, too
  pub waited_learnt : (X : Seat → Addr → Seat → Type 0) (bound : ℕ) (t : List Entry) (maps : List Mappings) (i : ℕ) (answer : Answer)
      → AreWaited X bound t maps → AreWaited X bound t (with_learnt maps i answer)
  waited_learnt X bound t maps i answer h j s e lt router x there z own =
      h j s e lt router x (learnt_after maps i answer j x there).0 z own

  -- and where a datagram is held
  pub waited_held : (X : Seat → Addr → Seat → Type 0) (bound : ℕ) (station : ℕ) (t : List Entry) (w : Held) (k l : Knowing) (by : HeldBy)
      → k.seats ≡ seats → k.station ≡ station → Holds k w.cable w.next (next_stamp t) by l → IsBelow t → AreWaited X bound t k.maps
      → AreWaited X bound (t ++ held_entries t station w by) l.maps
  waited_held X bound station t w k l by same at holds below h = in_case (seat_on k.seats w.cable k.station) refl
    where
      later : AreWaited X bound (t ++ held_entries t station w by) k.maps
      later = waited_later X bound t (held_entries t station w by) k.maps (all_calm station t w by) h

      in_case : (o : Option ℕ) → seat_on k.seats w.cable k.station ≡ o → AreWaited X bound (t ++ held_entries t station w by) l.maps
      in_case None e =
          let h2 = rw e at holds in
          subst (λ (n : Knowing). AreWaited X bound (t ++ held_entries t station w by) n.maps) (sym h2.0) later
      in_case (Some i) e =
          let h2 = rw e at holds in
          subst (λ (n : Knowing). AreWaited X bound (t ++ held_entries t station w by) n.maps) (sym h2.0)
          (λ j s es lt router x there z own.
          one j s es lt router x z own (held_after k.maps i w.next (next_stamp t) j x there))
        where
          request : IsRequest (is_first_for k.maps i w.next) (slice_get k.seats i) (slice_get k.own i) w.next by.ask
          request = (rw e at holds).2

          found : (s : Seat) × At k.seats i s × ((s.cable == w.cable && s.station == k.station) ≡ true)
          found = position_at (λ s. s.cable == w.cable && s.station == k.station) k.seats i e

          here : (s z : Seat) → At seats i s → Owns s w.next z → (m : Mappings) → slice_get k.maps i ≡ Some m
              → (b : Bool) → is_first_for k.maps i w.next ≡ b
              → IsRequest b (slice_get k.seats i) (slice_get k.own i) w.next by.ask
              → ((x : Waiter) → Has (held_at k.maps i) x → Owns s x.next z → IsUnderWay seats t s x.next z ⊎ X s x.next z)
              → IsUnderWay seats (t ++ held_entries t station w by) s w.next z ⊎ X s w.next z
          here s z es own m em true first r waited =
              let seat : At k.seats i s = subst (λ l. At l i s) (sym same) es in
              let r2 : IsRequest true (Some s) (slice_get k.own i) w.next by.ask =
              subst (λ o. IsRequest true o (slice_get k.own i) w.next by.ask) seat r in
              let is : found.0 ≡ s = at_one k.seats i found.0 s found.1 seat in
              let parts = and_parts (found.0.cable == w.cable) (found.0.station == k.station) found.2 in
              let cable : w.cable ≡ s.cable = sym (eqb-true _ _ parts.0) ∙ ap (λ (y : Seat). y.cable) is in
              let of : station ≡ s.station = sym at ∙ (sym (eqb-true _ _ parts.1) ∙ ap (λ (y : Seat). y.station) is) in
              inl (asks_now station t w by s z _ r2.0 below r2.2 r2.1 cable of own)
          here s z es own m em false first r waited =
              let old = asked_before k.maps i w.next m em first in
              of (subst (λ a. IsUnderWay seats t s a z ⊎ X s a z) old.2 (waited old.0 old.1 (subst (λ a. Owns s a z) (sym old.2) own)))
            where
              of : IsUnderWay seats t s w.next z ⊎ X s w.next z → IsUnderWay seats (t ++ held_entries t station w by) s w.next z ⊎ X s w.next z
              of (inl v) = inl (way_later seats t (held_entries t station w by) s w.next z (all_calm station t w by) v)
              of (inr v) = inr v

          one : (j : ℕ) (s : Seat) → At seats j s → j < bound → s.station < routers → (x : Waiter) (z : Seat) → Owns s x.next z
              → Has (held_at k.maps j) x ⊎ ((j ≡ i) × (x.next ≡ w.next) × ((m : Mappings) × (slice_get k.maps i ≡ Some m)))
              → IsUnderWay seats (t ++ held_entries t station w by) s x.next z ⊎ X s x.next z
          one j s es lt router x z own (inl old) = later j s es lt router x old z own
          one j s es lt router x z own (inr new) =
              let es_i : At seats i s = subst (λ n. At seats n s) new.0 es in
              let own_a : Owns s w.next z = subst (λ a. Owns s a z) new.1 own in
              subst (λ a. IsUnderWay seats (t ++ held_entries t station w by) s a z ⊎ X s a z) (sym new.1)
              (here s z es_i own_a new.2.0 new.2.1 (is_first_for k.maps i w.next) refl request
              (λ y there own_y. h i s es_i (subst (λ n. n < bound) new.0 lt) router y there z own_y))
