-- The invariant of live cables, after a call.
use Rattle.std.proofs.Common.{◌≡◌, ℕ, zero, suc, Bool, List, [], ◌∷◌, map, length}
use Rattle.std.proofs.Common.{◌++◌, Option, Some, None, inl, inr, refl, sym, ap, ◌∙◌, slice_get, subst, arith}
use Rattle.std.specs.Prelude.{slice_set}
use Rattle.std.proofs.lemmas.List.{length-map}
use Rattle.aarp.specs.Mapping.{Mappings, learnt, waited}
use Rattle.at_base.specs.declared.address.Addr.{Addr}
use Rattle.at_base.specs.declared.address.Hw.{Hw}
use Rattle.cable_model.specs.Logs.{Cabling, transcript}
use Rattle.cable_model.specs.Rooms.{held_rooms}
use Rattle.cable_model.specs.Transcript.{Took}
use Rattle.cable_model.specs.declared.seat.Seat.{Seat}
use Rattle.live_cables.specs.Finding.{Knowing, seat_by}
use Rattle.live_cables.specs.Holding.{AreFew, AreReleased, IsLearntBy, IsReleased, IsTold, KnowsSame, with_known, with_tick}
use Rattle.live_cables.specs.Holding.{without_held}
use Rattle.live_cables.specs.Living.{Stays, Wires, knowing}
use Rattle.live_cables.specs.Taking.{IsTakenIn}
use Rattle.live_cables.specs.declared.answer.Answer.{Answer}
use Rattle.live_cables.proofs.Knows.{few_same, knows_out, map-set}
use Rattle.station.specs.Hearing.{Hearing}
use Rattle.station.specs.declared.output.Output.{Output}

-- The cables, what a station knows and the limit belong together.
abbrev pub IsWhole : ℕ → Cabling → Knowing → Type 0
IsWhole limit c k =
    (k.seats ≡ c.seats) × (length k.own ≡ length c.seats) × (length k.maps ≡ length c.seats) × (c.rooms ≡ held_rooms)
    × AreFew k.maps × (limit ≡ c.limit)

-- What stays the same in a call, and what still holds after it.
pub record StaysWhole (c d : Cabling) (k l : Knowing) : Type 0 where
  pub seats : d.seats ≡ c.seats
  pub limit : d.limit ≡ c.limit
  pub rooms : d.rooms ≡ held_rooms
  pub near_seats : l.seats ≡ k.seats
  pub own : l.own ≡ k.own
  pub as_many : length l.maps ≡ length k.maps
  pub few : AreFew l.maps

pub still_whole : (limit : ℕ) (c d : Cabling) (k l : Knowing) → IsWhole limit c k → StaysWhole c d k l → IsWhole limit d l
still_whole limit c d k l (seats, own, maps, rooms, few, most) h =
    let many = ap length (sym h.seats) in (
      h.near_seats ∙ (seats ∙ sym h.seats),
      ap length h.own ∙ (own ∙ many),
      h.as_many ∙ (maps ∙ many),
      h.rooms,
      h.few,
      most ∙ sym h.limit,
    )

-- ---- Where only the datagrams that are held differ

pub as_many_known : (k l : Knowing) → KnowsSame k l → length l.maps ≡ length k.maps
as_many_known k l x =
    sym (length-map l.maps (λ (m : Mappings). m.known))
    ∙ (ap length x.known ∙ length-map k.maps (λ (m : Mappings). m.known))

pub whole_known : (most : ℕ) (c d : Cabling) (k l : Knowing) → IsWhole most c k → KnowsSame k l → d.seats ≡ c.seats
    → d.limit ≡ c.limit → d.rooms ≡ held_rooms → IsWhole most d l
whole_known most c d k l whole x seats limit rooms =
    still_whole most c d k l whole (record {
      seats = seats;
      limit = limit;
      rooms = rooms;
      near_seats = ap (λ n. n.seats) x.others;
      own = ap (λ n. n.own) x.others;
      as_many = as_many_known k l x;
      few = few_same k l x whole.4;
    })

-- ---- Where a frame was taken

length-set : {X : Type 0} (xs : List X) (i : ℕ) (y : X) → length (slice_set xs i y) ≡ length xs
length-set [] i y = refl
length-set (x ∷ xs) zero y = refl
length-set (x ∷ xs) (suc i) y = ap suc (length-set xs i y)

module _ (maps : List Mappings) (i : ℕ) where
  as_many_with : (f : List (Addr × Hw) → List (Addr × Hw)) → length (with_known maps i f) ≡ length maps
  as_many_with f = by (slice_get maps i) refl
    where
      by : (o : Option Mappings) → slice_get maps i ≡ o → length (with_known maps i f) ≡ length maps
      by None e = rw e refl
      by (Some m) e = rw e (length-set maps i _)

  as_many_without : (a : Addr) → length (without_held maps i a) ≡ length maps
  as_many_without a = by (slice_get maps i) refl
    where
      by : (o : Option Mappings) → slice_get maps i ≡ o → length (without_held maps i a) ≡ length maps
      by None e = rw e refl
      by (Some m) e = rw e (length-set maps i _)

  known_ticked : map (λ (m : Mappings). m.known) (with_tick maps i) ≡ map (λ (m : Mappings). m.known) maps
  known_ticked = by (slice_get maps i) refl
    where
      by : (o : Option Mappings) → slice_get maps i ≡ o
          → map (λ (m : Mappings). m.known) (with_tick maps i) ≡ map (λ (m : Mappings). m.known) maps
      by None e = rw e refl
      by (Some m) e = rw e (map-set (λ (m : Mappings). m.known) maps i m (record m { held = waited m.held }) e refl)

pub knows_ticked : (k l : Knowing) (i : ℕ) → l ≡ record k { maps = with_tick k.maps i } → KnowsSame k l
knows_ticked k l i e = subst (KnowsSame k) (sym e) (record { others = refl; known = known_ticked k.maps i })

as_many_told : (seats : List Seat) (station : ℕ) (o : Option Answer) (old new : Cabling × List Mappings)
    → IsTold seats station o old new → length new.1 ≡ length old.1
as_many_told seats station None old new h = ap length h.1
as_many_told seats station (Some answer) old new h = by (seat_by seats station answer.port) h
  where
    by : (o : Option ℕ) → IsLearntBy o answer old new → length new.1 ≡ length old.1
    by None g = ap length g.1
    by (Some i) g =
        ap length g.1
        ∙ (as_many_without (with_known old.1 i (learnt answer.source answer.source_hw)) i answer.source
        ∙ as_many_with old.1 i (learnt answer.source answer.source_hw))

released_rooms : (to : Hw) (ss : List (Option ℕ)) (old new : Cabling) → AreReleased to ss old new → new.rooms ≡ old.rooms
released_rooms to [] old new h = h.rooms
released_rooms to (s ∷ ss) old new (mid, first, rest) = released_rooms to ss mid new rest ∙ one s first
  where
    one : (s : Option ℕ) → IsReleased to s old mid → mid.rooms ≡ old.rooms
    one None g = g.rooms
    one (Some stamp) (inl (held, there, of_stamp, adds)) = adds.rooms
    one (Some stamp) (inr (shut, adds)) = adds.rooms

told_rooms : (seats : List Seat) (station : ℕ) (o : Option Answer) (old new : Cabling × List Mappings)
    → IsTold seats station o old new → new.0.rooms ≡ old.0.rooms
told_rooms seats station None old new h = h.0.rooms
told_rooms seats station (Some answer) old new h = by (seat_by seats station answer.port) h
  where
    by : (o : Option ℕ) → IsLearntBy o answer old new → new.0.rooms ≡ old.0.rooms
    by None g = g.0.rooms
    by (Some i) g = released_rooms answer.source_hw _ old.0 new.0 g.0

module _ (stamp station ports : ℕ) (Hears : Hearing → List Output → Type 0) (old new : Cabling × Knowing)
    (h : IsTakenIn stamp station ports Hears old new) where
  knows_after : KnowsSame old.1 h.after
  knows_after =
      knows_out old.0.seats station (transcript old.0 ++ Took stamp station ∷ []) h.took.added old.1 h.took.told h.took.bytes h.after
      h.took.out

  pub whole_taken : (most : ℕ) (d : Cabling) → IsWhole most old.0 old.1 → d.seats ≡ old.0.seats → d.limit ≡ old.0.limit
      → d.rooms ≡ new.0.rooms → AreFew new.1.maps → IsWhole most d new.1
  whole_taken most d whole seats limit rooms few =
      still_whole most old.0 d old.1 new.1 whole (record {
        seats = seats;
        limit = limit;
        rooms = rooms ∙ (told_rooms old.1.seats station h.answer _ _ h.told ∙ (h.took.entries.rooms ∙ whole.3));
        near_seats = ap (λ n. n.seats) h.others ∙ ap (λ n. n.seats) knows_after.others;
        own = ap (λ n. n.own) h.others ∙ ap (λ n. n.own) knows_after.others;
        as_many = as_many_told old.1.seats station h.answer _ _ h.told ∙ as_many_known old.1 h.after knows_after;
        few = few;
      })

  -- The addresses and the ranges stay the same.
  pub own_taken : new.1.own ≡ old.1.own
  own_taken = ap (λ n. n.own) h.others ∙ ap (λ n. n.own) knows_after.others

  pub ranges_taken : new.1.ranges ≡ old.1.ranges
  ranges_taken = ap (λ n. n.ranges) h.others ∙ ap (λ n. n.ranges) knows_after.others

-- ---- Live cables

-- The state of live cables by their parts.
abbrev pub wires : Cabling → Knowing → List Bool → Wires
wires c k losing = record { cabling = c; own = k.own; maps = k.maps; ranges = k.ranges; losing = losing }

pub faced : (most : ℕ) (c : Cabling) (k f : Knowing) (station : ℕ) → f ≡ record k { station = station } → IsWhole most c k
    → IsWhole most c f
faced most c k f station e whole = subst (IsWhole most c) (sym e) whole

pub is_knowing : (c : Cabling) (k f : Knowing) (losing : List Bool) (station : ℕ) → f ≡ record k { station = station }
    → k.seats ≡ c.seats → f ≡ knowing (wires c k losing) station
is_knowing c k f losing station e seats =
    e ∙ ap {A = List Seat} (λ s. record { station = station; seats = s; own = k.own; maps = k.maps; ranges = k.ranges }) seats

pub stays_known : (c d : Cabling) (k f l : Knowing) (losing : List Bool) (station : ℕ) → f ≡ record k { station = station }
    → KnowsSame f l → Stays (wires c k losing) (wires d l losing)
stays_known c d k f l losing station e x = record {
  own = ap (λ n. n.own) x.others ∙ ap (λ n. n.own) e;
  ranges = ap (λ n. n.ranges) x.others ∙ ap (λ n. n.ranges) e;
  losing = refl;
}

pub stays_taken : (stamp station ports : ℕ) (Hears : Hearing → List Output → Type 0) (c m d : Cabling) (k f l : Knowing)
    (losing : List Bool) (by : ℕ) → f ≡ record k { station = by } → IsTakenIn stamp station ports Hears (c, f) (m, l)
    → Stays (wires c k losing) (wires d l losing)
stays_taken stamp station ports Hears c m d k f l losing by e h = record {
  own = own_taken stamp station ports Hears (c, f) (m, l) h ∙ ap (λ n. n.own) e;
  ranges = ranges_taken stamp station ports Hears (c, f) (m, l) h ∙ ap (λ n. n.ranges) e;
  losing = refl;
}

few_at_first : (seats : List Seat) → AreFew (map (λ (s : Seat). record { known = []; held = [] }) seats)
few_at_first [] = tt
few_at_first (s ∷ seats) = (omega arith, few_at_first seats)

pub whole_settled : (most : ℕ) (c : Cabling) (k : Knowing) (seats : List Seat) (own : List (Option Addr)) (maps : List Mappings)
    → c.seats ≡ seats → c.limit ≡ most → c.rooms ≡ held_rooms → k.seats ≡ seats → k.own ≡ own → k.maps ≡ maps
    → length own ≡ length seats → length maps ≡ length seats → AreFew maps → IsWhole most c k
whole_settled most c k seats own maps cs limit rooms ks is_own is_maps as_own as_maps few =
    let many = ap length (sym cs) in (
      ks ∙ sym cs,
      ap length is_own ∙ (as_own ∙ many),
      ap length is_maps ∙ (as_maps ∙ many),
      rooms,
      subst AreFew (sym is_maps) few,
      sym limit,
    )

pub whole_first : (most : ℕ) (c : Cabling) (k : Knowing) (seats : List Seat) → c.seats ≡ seats → c.limit ≡ most
    → c.rooms ≡ held_rooms → k.seats ≡ seats → k.own ≡ map (λ (s : Seat). None) seats
    → k.maps ≡ map (λ (s : Seat). record { known = []; held = [] }) seats → IsWhole most c k
whole_first most c k seats cs limit rooms ks own maps =
    whole_settled most c k seats _ _ cs limit rooms ks own maps (length-map seats _) (length-map seats _) (few_at_first seats)
