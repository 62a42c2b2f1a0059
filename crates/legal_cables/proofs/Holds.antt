-- A seat holds one more datagram: what is let go and asked for is what its transcript says, and it keeps what its station
-- holds then.
use Rattle.std.proofs.Common.{◌≡◌, ℕ, suc, ◌-◌, ◌≤◌, Bool, true, false, not, ◌&&◌, ◌==◌, if◌then◌else◌, nat_lt, length}
use Rattle.std.proofs.Common.{List, [], ◌∷◌, ◌++◌, Option, Some, None, refl, sym, ap, ◌∙◌, subst, arith, map, slice_get, slice_set}
use Rattle.std.proofs.Common.{append-nil, append_assoc, eq-eqb}
use Rattle.std.specs.List.{list_any}
use Rattle.std.proofs.lemmas.Bool.{and_parts}
use Rattle.aarp.specs.Mapping.{Mappings, holding, is_for}
use Rattle.at_base.specs.Address.{same_address}
use Rattle.at_base.specs.Limits.{max_held}
use Rattle.at_base.specs.Multicast.{all_hw}
use Rattle.at_base.specs.declared.address.Addr.{Addr}
use Rattle.audit.specs.Rules.{Passes}
use Rattle.table_image.specs.Internet.{Internet}
use Rattle.table_image.specs.Seats.{Seat as PlaceOf, seats}
use Rattle.station.specs.declared.heard.Kind.TheVariants.{Aarp}
use Rattle.cable_model.specs.Holdings.{is_open, still_held}
use Rattle.cable_model.specs.Outcomes.{Held}
use Rattle.cable_model.specs.Outgoing.{asked, held_entries, let_go}
use Rattle.cable_model.specs.Transcript.{Entry, Frame, Holding, Hold, Lost, Put, count, next_stamp}
use Rattle.cable_model.specs.declared.resolve.HeldBy.{HeldBy}
use Rattle.cable_model.proofs.Counting.{count-filter, count_le, map_at}
use Rattle.cable_model.proofs.Stamps.{above_next, next_after}
use Rattle.legal_runs.specs.Stations.{cable_seat, is_on}
use Rattle.live_cables.specs.Finding.{Knowing, is_first_for, seat_on}
use Rattle.live_cables.specs.Holding.{Holds, IsRequest, datagram, shed_at, with_held}
use Rattle.resolved_runs.specs.Resolved.{held_at, held_by_port, request_bytes, request_of, shed_of, station_seats}
use Rattle.resolved_runs.proofs.Elements.{In, any_in, in_left, kept_in}
use Rattle.legal_cables.specs.Keeping.{IsKept, Keeps}
use Rattle.legal_cables.proofs.After.{After, after_calm, after_ended, after_hold, after_none}
use Rattle.legal_cables.proofs.Changes.{keeps_set}
use Rattle.legal_cables.proofs.Effects.{IsBooked, numbered, still_below, still_hold}
use Rattle.legal_cables.proofs.Finds.{kept_at}
use Rattle.legal_cables.proofs.Kept.{as_held}
use Rattle.legal_cables.proofs.Others.{few_held, first_gone, is_mine}
use Rattle.legal_cables.proofs.Placed.{HasSeat, the_seat}
use Rattle.legal_cables.proofs.Ring.{held_for, holding_first, holding_is, shed_is}

-- ---- The mappings of the seat

with_held_is : (maps : List Mappings) (n : ℕ) (a : Addr) (stamp : ℕ) (m : Mappings) → slice_get maps n ≡ Some m
    → with_held maps n a stamp ≡ slice_set maps n (record m { held = holding (datagram a stamp) m.held })
with_held_is maps n a stamp m e = rw e refl

shed_at_is : (maps : List Mappings) (n : ℕ) (a : Addr) (stamp : ℕ) (m : Mappings) (hs : List Holding) → slice_get maps n ≡ Some m
    → m.held ≡ map as_held hs → shed_at maps n a stamp ≡ shed_of hs
shed_at_is maps n a stamp m hs e held = rw e (rw held (shed_is a stamp hs))

first_is : (maps : List Mappings) (n : ℕ) (a : Addr) (m : Mappings) (hs : List Holding) → slice_get maps n ≡ Some m
    → m.held ≡ map as_held hs → is_first_for maps n a ≡ not (list_any (λ h. same_address a h.next) hs)
first_is maps n a m hs e held = rw e (ap not (ap (list_any (is_for a)) held ∙ held_for a hs))

-- The request that goes out.
asked_is : (i : Internet) (s c : ℕ) (w : HasSeat i s c) (a : Addr) (hs : List Holding) (ask : Option (List ℕ))
    → IsRequest (not (list_any (λ h. same_address a h.next) hs)) (Some (cable_seat i w.seat)) (Some (Some w.seat.address)) a ask
    → ask ≡ request_of i s c a hs
asked_is i s c w a hs ask h = by (list_any (λ h. same_address a h.next) hs) h
  where
    by : (b : Bool) → IsRequest (not b) (Some (cable_seat i w.seat)) (Some (Some w.seat.address)) a ask
        → ask ≡ (if b then None else request_bytes (station_seats i s c) a)
    by true none = none
    by false (bytes, spelled, is) = is ∙ (ap Some spelled.1 ∙ ap (λ ss. request_bytes ss a) (sym w.only))

-- ---- One more is held

-- The request changes nothing of that.
asked_after : (i : Internet) (s c : ℕ) (t u : List Entry) (hs : List Holding) → After i s c t u hs → (n : ℕ) → next_stamp u ≡ n
    → (ask : Option (List ℕ)) → After i s c t (u ++ asked (record { stamp = n; cable = c; station = s }) ask) hs
asked_after i s c t u hs was n next None = subst (λ v. After i s c t v hs) (sym (append-nil u)) was
asked_after i s c t u hs was n next (Some bytes) =
    let f : Frame = record { stamp = n; cable = c; sender = s; to = all_hw; kind = Aarp; bytes = bytes } in
    after_calm i s c t u hs was (Put f) (omega (arith, next))

map_more : (hs : List Holding) (d : Holding) → map as_held hs ++ as_held d ∷ [] ≡ map as_held (hs ++ d ∷ [])
map_more [] d = refl
map_more (h ∷ hs) d = ap (λ l. as_held h ∷ l) (map_more hs d)

module _ (i : Internet) (s : ℕ) (t : List Entry) (b : IsBooked t) (d : Held) where
  -- The datagram that is held.
  abbrev new : Holding
  new = record { stamp = next_stamp t; cable = d.cable; station = s; next = d.next; bytes = d.bytes }

  abbrev with_new : List Entry
  with_new = t ++ Hold new ∷ []

  -- What is held then, and how the seat's ring says it.
  record Middle (hs : List Holding) : Type 0 where
    rest : List Holding
    after : After i s d.cable t (with_new ++ let_go t (shed_of hs)) rest
    next : next_stamp (with_new ++ let_go t (shed_of hs)) ≡ suc (next_stamp t)
    ring : holding (datagram d.next (next_stamp t)) (map as_held hs) ≡ map as_held rest

  mine : is_mine s d.cable new ≡ true
  mine = ap (λ x. x && d.cable == d.cable) (eq-eqb s s refl) ∙ eq-eqb d.cable d.cable refl

  held_first : After i s d.cable t with_new (held_at t s d.cable ++ new ∷ [])
  held_first = after_hold i s d.cable t t (held_at t s d.cable) (after_none i s d.cable t b) new mine (omega arith)

  one_more : next_stamp with_new ≡ suc (next_stamp t)
  one_more = next_after t (Hold new) ∙ above_next (next_stamp t)

  middle : (hs : List Holding) → held_at t s d.cable ≡ hs → Middle hs
  middle [] e = record {
    rest = new ∷ [];
    after = subst (λ u. After i s d.cable t u (new ∷ [])) (sym (append-nil with_new))
        (subst (λ l. After i s d.cable t with_new (l ++ new ∷ [])) e held_first);
    next = ap next_stamp (append-nil with_new) ∙ one_more;
    ring = holding_first d.next (next_stamp t);
  }
  middle (g ∷ gs) e = by (nat_lt (length gs) (max_held - 1)) refl
    where
      first : After i s d.cable t with_new (g ∷ (gs ++ new ∷ []))
      first = subst (λ l. After i s d.cable t with_new (l ++ new ∷ [])) e held_first

      there : In (held_at t s d.cable) g
      there = subst (λ l. In l g) (sym e) (0, refl)

      still : In (still_held t) g × (is_mine s d.cable g ≡ true)
      still = kept_in (is_mine s d.cable) (still_held t) g there

      still_then : In (still_held with_new) g
      still_then =
          subst (λ l. In l g) (sym (still_hold t new (b.free (next_stamp t) (omega arith)))) (in_left (still_held t) (new ∷ []) g still.0)

      opened : is_open t g.stamp ≡ true
      opened = any_in (λ (h : Holding). g.stamp == h.stamp) (still_held t) g still.0 (eq-eqb g.stamp g.stamp refl)

      few : count (numbered g.stamp) (g ∷ (gs ++ new ∷ [])) ≤ 1
      few =
          let all = few_held with_new g.stamp (first.books.once g.stamp) in
          let part = count-filter (numbered g.stamp) (is_mine s d.cable) (still_held with_new) in
          let le = count_le (λ h. is_mine s d.cable h && numbered g.stamp h) (numbered g.stamp) (still_held with_new)
          (λ h p. (and_parts (is_mine s d.cable h) (numbered g.stamp h) p).1) in
          let same = ap (count (numbered g.stamp)) first.here in
          omega (arith, all, part, le, same)

      lost : After i s d.cable t (with_new ++ Lost g.stamp ∷ []) (gs ++ new ∷ [])
      lost =
          subst (After i s d.cable t (with_new ++ Lost g.stamp ∷ []))
          (first_gone g.stamp g (gs ++ new ∷ []) few (eq-eqb g.stamp g.stamp refl))
          (after_ended i s d.cable t with_new (g ∷ (gs ++ new ∷ [])) first (Lost g.stamp) g refl (λ n. refl) tt
          (still_below with_new g still_then) still_then still.1)

      by : (x : Bool) → nat_lt (length gs) (max_held - 1) ≡ x → Middle (g ∷ gs)
      by true r = record {
        rest = g ∷ (gs ++ new ∷ []);
        after = rw r (subst (λ u. After i s d.cable t u (g ∷ (gs ++ new ∷ []))) (sym (append-nil with_new)) first);
        next = rw r (ap next_stamp (append-nil with_new) ∙ one_more);
        ring = holding_is d.next (next_stamp t) g gs ∙ rw r (ap (λ l. as_held g ∷ l) (map_more gs new));
      }
      by false r = record {
        rest = gs ++ new ∷ [];
        after = rw r (rw opened lost);
        next = rw r (rw opened (next_after with_new (Lost g.stamp) ∙ one_more));
        ring = holding_is d.next (next_stamp t) g gs ∙ rw r (map_more gs new);
      }

module _ (i : Internet) (ok : Passes i) (s : ℕ) (k l : Knowing) (t : List Entry) (d : Held) (by : HeldBy)
    (station : k.station ≡ s) (keeps : Keeps i k t) (b : IsBooked t) (on : is_on i s d.cable ≡ true)
    (held : Holds k d.cable d.next (next_stamp t) by l) where
  w : HasSeat i s d.cable
  w = the_seat i ok s d.cable on

  place : seat_on k.seats d.cable k.station ≡ Some w.place
  place = ap (seat_on k.seats d.cable) station ∙ (ap (λ ss. seat_on ss d.cable s) keeps.seats_are ∙ w.on)

  changes : (l ≡ record k { maps = with_held k.maps w.place d.next (next_stamp t) })
      × (by.shed ≡ shed_at k.maps w.place d.next (next_stamp t))
      × IsRequest (is_first_for k.maps w.place d.next) (slice_get k.seats w.place) (slice_get k.own w.place) d.next by.ask
  changes = let h = rw place at held in h

  old : (m : Mappings) × (slice_get k.maps w.place ≡ Some m) × IsKept i t s d.cable m
  old = kept_at i k t s d.cable keeps w

  abbrev hs : List Holding
  hs = held_at t s d.cable

  shed_same : by.shed ≡ shed_of hs
  shed_same = changes.1 ∙ shed_at_is k.maps w.place d.next (next_stamp t) old.0 hs old.1 old.2.held

  ask_same : by.ask ≡ request_of i s d.cable d.next hs
  ask_same =
      let seat : slice_get k.seats w.place ≡ Some (cable_seat i w.seat) =
      ap (λ ss. slice_get ss w.place) keeps.seats_are ∙ map_at (cable_seat i) (seats i) w.place w.seat w.at in
      let own : slice_get k.own w.place ≡ Some (Some w.seat.address) =
      ap (λ o. slice_get o w.place) keeps.own ∙ map_at (λ (q : PlaceOf). Some q.address) (seats i) w.place w.seat w.at in
      let h = changes.2 in
      let h1 = subst (λ x. IsRequest x (slice_get k.seats w.place) (slice_get k.own w.place) d.next by.ask)
      (first_is k.maps w.place d.next old.0 hs old.1 old.2.held) h in
      let h2 = subst (λ x. IsRequest (not (list_any (λ h. same_address d.next h.next) hs)) x (slice_get k.own w.place) d.next by.ask)
      seat h1 in
      let h3 = subst (λ x. IsRequest (not (list_any (λ h. same_address d.next h.next) hs)) (Some (cable_seat i w.seat)) x d.next by.ask)
      own h2 in
      asked_is i s d.cable w d.next hs by.ask h3

  pub by_is : by ≡ held_by_port i t s d
  by_is =
      ap (λ x. record { shed = x; ask = by.ask }) shed_same
      ∙ ap (λ x. record { shed = shed_of hs; ask = x }) ask_same

  -- The same station looks up and holds.
  pub station_then : l.station ≡ s
  station_then = ap (λ (x : Knowing). x.station) changes.0 ∙ station

  -- What the seat keeps then.
  mappings_then : Mappings
  mappings_then = record old.0 { held = holding (datagram d.next (next_stamp t)) old.0.held }

  pub knows_then : Keeps i l (t ++ held_entries t s d by) × IsBooked (t ++ held_entries t s d by)
  unfolding old mappings_then
  knows_then =
      let mid = middle i s t b d hs refl in
      let u : List Entry = with_new i s t b d ++ let_go t (shed_of hs) in
      let tail : List Entry = asked (record { stamp = suc (next_stamp t); cable = d.cable; station = s }) by.ask in
      let done = asked_after i s d.cable t u mid.rest mid.after (suc (next_stamp t)) mid.next by.ask in
      let kept = done.own old.0 mappings_then old.2 refl (ap (holding (datagram d.next (next_stamp t))) old.2.held ∙ mid.ring) in
      let keeps_set_there = keeps_set i ok s d.cable w k t (u ++ tail) mappings_then keeps kept done.others in
      let is : l ≡ record k { maps = slice_set k.maps w.place mappings_then } =
      changes.0 ∙ ap (λ x. record k { maps = x }) (with_held_is k.maps w.place d.next (next_stamp t) old.0 old.1) in
      let entries : u ++ tail ≡ t ++ held_entries t s d by =
      append_assoc (with_new i s t b d) (let_go t (shed_of hs)) tail
      ∙ (append_assoc t (Hold (new i s t b d) ∷ []) (let_go t (shed_of hs) ++ tail)
      ∙ ap (λ x. t ++ Hold (new i s t b d) ∷ (let_go t x ++ tail)) (sym shed_same)) in (
        subst (Keeps i l) entries (subst (λ x. Keeps i x (u ++ tail)) (sym is) keeps_set_there),
        subst IsBooked entries done.books,
      )
