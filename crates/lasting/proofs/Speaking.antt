-- What a station sends to all stations of a cable is pending for each other station there.
use Rattle.std.proofs.Common.{◌≡◌, ◌⊎◌, inl, inr, ℕ, zero, suc, ◌+◌, ◌<◌, ◌≤◌, ◌==◌, Bool, true, false, not, ◌&&◌, cond, List, [], ◌∷◌, ◌++◌, Option, Some, None}
use Rattle.std.proofs.Common.{refl, sym, ap, ◌∙◌, subst, slice_get, length, map, filter, arith, eq-eqb, append-nil, drop, nat_lt, true≢false}
use Rattle.std.specs.Prelude.{option_and_then}
use Rattle.std.specs.List.{position_or_len, AllByRecursion as Each}
use Rattle.std.proofs.lemmas.Bool.{and_from, cases_Bool, lt-ltb}
use Rattle.at_base.specs.Multicast.{all_hw}
use Rattle.cable_model.proofs.Counting.{At, each-append, each_more}
use Rattle.cable_model.proofs.Pairs.{below_more, not_ended_yet}
use Rattle.cable_model.proofs.Stamps.{open_below, stamp_from_more, stamp_from-append}
use Rattle.cable_model.specs.Books.{EndsBelow}
use Rattle.cable_model.specs.Logs.{Cabling, transcript}
use Rattle.cable_model.specs.Outcomes.{has_cable, is_seated, sent_entries}
use Rattle.cable_model.specs.Outgoing.{IsSent}
use Rattle.cable_model.specs.Pending.{Pair, is_heard, pairs, pairs_of, pending, was_ended}
use Rattle.cable_model.specs.Transcript.{Entry, Frame, Sent, Put, Took, Reached, Dropped, Lost, Hold, next_stamp}
use Rattle.cable_model.specs.declared.seat.Seat.{Seat}
use Rattle.ddp.specs.Bodies.{target}
use Rattle.lasting.proofs.Given.{IsFineStep, IsLossless, MayPut, given_all, given_one, lost_step, no_losses, seat_found}
use Rattle.lasting.proofs.Staying.{calm_stays}
use Rattle.lasting.specs.Resting.{IsBelow}
use Rattle.live_cables.proofs.Pending.{Has, has_any, has_kept}
use Rattle.live_cables.specs.Finding.{Knowing, places_of, seat_by}
use Rattle.live_cables.specs.Holding.{Holds}
use Rattle.live_cables.specs.Living.{GivesOut, Wires, happened, knowing}
use Rattle.live_cables.specs.Putting.{AreGiven, IsGiven, IsMade}
use Rattle.live_cables.specs.Steps.{are_calm, is_calm, loses_by}
use Rattle.station.specs.declared.heard.Kind.TheVariants.{Ddp}
use Rattle.station.specs.declared.output.Next.TheVariants as next
use Rattle.station.specs.declared.output.Output.{Output}
use Rattle.station.specs.declared.output.Output.TheVariants as output

-- ---- Numbers

below_one : (t : List Entry) (e : Entry) → IsBelow t → is_calm t e ≡ true → IsBelow (t ++ e ∷ [])
below_one t e b c =
    let more : next_stamp t ≤ next_stamp (t ++ e ∷ []) = subst (λ n. next_stamp t ≤ n) (sym (stamp_from-append 0 t (e ∷ []))) (stamp_from_more (next_stamp t) (e ∷ [])) in
    each-append (EndsBelow (next_stamp (t ++ e ∷ []))) t (e ∷ [])
    (each_more (EndsBelow (next_stamp t)) (EndsBelow (next_stamp (t ++ e ∷ []))) t (below_more (next_stamp t) (next_stamp (t ++ e ∷ [])) more) b)
    (here e c more, tt)
  where
    here : (e : Entry) → is_calm t e ≡ true → {n : ℕ} → next_stamp t ≤ n → EndsBelow n e
    here (Sent s x) c le = tt
    here (Put f) c le = tt
    here (Took q s) c le = cc
    here (Reached a s w x) c le = tt
    here (Dropped r a x) c le = tt
    here (Hold d) c le = tt
    here (Lost stamp) c le = let lt = open_below t stamp c in omega (arith, lt, le)

pub calm_below : (t es : List Entry) → IsBelow t → are_calm t es ≡ true → IsBelow (t ++ es)
calm_below t [] b c = subst IsBelow (sym (append-nil t)) b
calm_below t (e ∷ es) b c =
    let parts = Rattle.std.proofs.lemmas.Bool.and_parts (is_calm t e) (are_calm (t ++ e ∷ []) es) c in
    subst IsBelow (Rattle.std.proofs.Common.append_assoc t (e ∷ []) es) (calm_below (t ++ e ∷ []) es (below_one t e b parts.0) parts.1)

-- ---- A new frame

has_left : {X : Type 0} (xs ys : List X) (x : X) → Has xs x → Has (xs ++ ys) x
has_left xs ys x h = (h.0, at xs h.0 h.1)
  where
    at : (xs : List _) (k : ℕ) → At xs k x → At (xs ++ ys) k x
    at [] k e = cc
    at (y ∷ xs) zero e = e
    at (y ∷ xs) (suc k) e = at xs k e

pub has_right : {X : Type 0} (xs ys : List X) (x : X) → Has ys x → Has (xs ++ ys) x
has_right [] ys x h = h
has_right (y ∷ xs) ys x h = let w = has_right xs ys x h in (suc w.0, w.1)

has_map : (f : Frame) (ss : List Seat) (z : Seat) → Has ss z → Has {X = Pair} (map (λ s. record { frame = f; seat = s }) ss) (record { frame = f; seat = z })
has_map f ss z h = (h.0, at ss h.0 h.1)
  where
    at : (ss : List Seat) (k : ℕ) → At ss k z → At {X = Pair} (map (λ s. record { frame = f; seat = s }) ss) k (record { frame = f; seat = z })
    at [] k e = cc
    at (s ∷ ss) zero e = let is : s ≡ z = cc in let pair : Seat → Option Pair = λ y. Some (record { frame = f; seat = y }) in ap pair is
    at (s ∷ ss) (suc k) e = at ss k e

put_pairs : (seats : List Seat) (t : List Entry) (k : ℕ) (f : Frame) (z : Seat) → At t k (Put f) → Has seats z → is_heard f z ≡ true
    → Has (pairs seats t) (record { frame = f; seat = z })
put_pairs seats [] k f z e h on = cc
put_pairs seats (x ∷ t) zero f z e h on =
    let is : x ≡ Put f = cc in
    has_left (pairs_of seats x) (pairs seats t) (record { frame = f; seat = z })
    (subst (λ y. Has (pairs_of seats y) (record { frame = f; seat = z })) (sym is)
    (has_map f (filter (is_heard f) seats) z (has_kept (is_heard f) seats z h on)))
put_pairs seats (x ∷ t) (suc k) f z e h on = has_right (pairs_of seats x) (pairs seats t) (record { frame = f; seat = z }) (put_pairs seats t k f z e h on)

-- a frame whose number nothing has ended is pending
pub new_pending : (seats : List Seat) (t : List Entry) (n k : ℕ) (f : Frame) (z : Seat) → Each (EndsBelow n) t → n ≤ f.stamp → At t k (Put f) → Has seats z
    → is_heard f z ≡ true → Has (pending seats t) (record { frame = f; seat = z })
new_pending seats t n k f z below le e h on =
    has_kept (λ p. not (was_ended t p)) (pairs seats t) (record { frame = f; seat = z }) (put_pairs seats t k f z e h on)
    (ap not (not_ended_yet n t (record { frame = f; seat = z }) below le))

-- ---- One output

-- the frame that a seat's station sends to all
abbrev pub frame_to_all : ℕ → Seat → List ℕ → Frame
frame_to_all stamp s bytes = record { stamp = stamp; cable = s.cable; sender = s.station; to = all_hw; kind = Ddp; bytes = bytes }

-- A frame with these bytes is pending for each station that hears it from a seat of the station's port.
pub record IsSaid (seats : List Seat) (t : List Entry) (station port : ℕ) (bytes : List ℕ) : Type 0 where
  pub s : Seat
  pub s_at : Has seats s
  pub of : s.station ≡ station
  pub by : s.port ≡ port
  pub stamp : ℕ
  pub waits : (z : Seat) → Has seats z → is_heard (frame_to_all stamp s bytes) z ≡ true
      → Has (pending seats t) (record { frame = frame_to_all stamp s bytes; seat = z })

pub said_later : (seats : List Seat) (t es : List Entry) (station port : ℕ) (bytes : List ℕ) → are_calm t es ≡ true → IsSaid seats t station port bytes
    → IsSaid seats (t ++ es) station port bytes
said_later seats t es station port bytes calm x = record {
  s = x.s;
  s_at = x.s_at;
  of = x.of;
  by = x.by;
  stamp = x.stamp;
  waits = λ z h on. calm_stays seats t es (record { frame = frame_to_all x.stamp x.s bytes; seat = z }) (x.waits z h on) calm;
}

sent_waits : (seats : List Seat) (s : Seat) (bytes : List ℕ) (old new : Cabling) (k l : Knowing) → IsBelow (transcript old)
    → IsSent places_of Holds old new s.cable s.station next.All bytes k l → (z : Seat) → Has seats z
    → is_heard (frame_to_all (next_stamp (transcript old)) s bytes) z ≡ true
    → Has (pending seats (transcript new)) (record { frame = frame_to_all (next_stamp (transcript old)) s bytes; seat = z })
sent_waits seats s bytes old new k l below g z h on =
    let n = next_stamp (transcript old) in
    let f = frame_to_all n s bytes in
    let own = sent_entries (places_of k) old s.cable s.station next.All bytes in
    let grown : transcript new ≡ transcript old ++ own =
    g.entries.added ∙ (ap (λ m. transcript old ++ (own ++ m)) g.held.0 ∙ ap (λ m. transcript old ++ m) (append-nil own)) in
    let w = by ((places_of k).lists (target bytes).net) n in
    let there = has_right (transcript old) own (Put f) w.1 in
    subst (λ t. Has (pending seats t) (record { frame = f; seat = z })) (sym grown)
    (new_pending seats (transcript old ++ own) n there.0 f z (each-append (EndsBelow n) (transcript old) own below w.0) (omega arith) there.1 h on)
  where
    by : (b : Bool) (n : ℕ)
        → Each (EndsBelow n) (Sent s.station (Rattle.ddp.specs.Bodies.body bytes) ∷ cond b (Reached s.cable s.station Rattle.cable_model.specs.declared.entry.How.TheVariants.All (Rattle.ddp.specs.Bodies.body bytes)
        ∷ Put (frame_to_all n s bytes) ∷ []) (Put (frame_to_all n s bytes) ∷ []))
        × Has (Sent s.station (Rattle.ddp.specs.Bodies.body bytes) ∷ cond b (Reached s.cable s.station Rattle.cable_model.specs.declared.entry.How.TheVariants.All (Rattle.ddp.specs.Bodies.body bytes)
        ∷ Put (frame_to_all n s bytes) ∷ []) (Put (frame_to_all n s bytes) ∷ [])) (Put (frame_to_all n s bytes))
    by true n = ((tt, (tt, (tt, tt))), (suc (suc zero), refl))
    by false n = ((tt, (tt, tt)), (suc zero, refl))

-- a station with a seat for a port has a first one
pub found_below : (p : Seat → Bool) (xs : List Seat) (k : ℕ) (x : Seat) → At xs k x → p x ≡ true → (s : Seat) × At xs (position_or_len p xs) s × (position_or_len p xs < length xs)
found_below p [] k x e on = cc
found_below p (y ∷ xs) k x e on = by (λ j f. found_below p xs j x f on)
  where
    later : ((j : ℕ) → At xs j x → (s : Seat) × At xs (position_or_len p xs) s × (position_or_len p xs < length xs))
        → (k : ℕ) → At (y ∷ xs) k x → p y ≡ false → (s : Seat) × At xs (position_or_len p xs) s × (position_or_len p xs < length xs)
    later again zero e off = let is : y ≡ x = cc in absurd (true≢false (sym on ∙ (ap p (sym is) ∙ off)))
    later again (suc k) e off = again k e

    by : ((j : ℕ) → At xs j x → (s : Seat) × At xs (position_or_len p xs) s × (position_or_len p xs < length xs))
        → (s : Seat) × At (y ∷ xs) (position_or_len p (y ∷ xs)) s × (position_or_len p (y ∷ xs) < length (y ∷ xs))
    by again =
        elim (cases_Bool (p y)) [
          | inl on_it ↦
              let first : position_or_len p (y ∷ xs) ≡ 0 = ap (λ b. cond (not b) (1 + position_or_len p xs) 0) on_it in
              (y, ap (slice_get (y ∷ xs)) first, omega (arith, first))
          | inr off_it ↦
              let next : position_or_len p (y ∷ xs) ≡ suc (position_or_len p xs) =
              ap (λ b. cond (not b) (1 + position_or_len p xs) 0) off_it ∙ omega arith in
              let w = later again k e off_it in
              let low = w.2 in
              (w.0, ap (slice_get (y ∷ xs)) next ∙ w.1, omega (arith, next, low))
        ]

first_seat : (seats : List Seat) (station port : ℕ) (z : Seat) → Has seats z → z.station ≡ station → z.port ≡ port
    → (s : Seat) × (option_and_then (slice_get seats) (seat_by seats station port) ≡ Some s)
first_seat seats station port z h of by =
    let w = found_below (λ (s : Seat). s.station == station && s.port == port) seats h.0 z h.1
    (and_from _ _ (eq-eqb z.station station of) (eq-eqb z.port port by)) in (
      w.0,
      ap (λ b. option_and_then (slice_get seats) (cond b (Some (position_or_len (λ (s : Seat). s.station == station && s.port == port) seats)) None))
          (lt-ltb _ _ w.2)
          ∙ w.1,
    )

module _ (IsToldOf : Frame → Type 0) where
  -- an output that goes to all is pending for them
  one_said : (station port : ℕ) (bytes : List ℕ) (old new : Cabling × Knowing) → old.0.seats ≡ old.1.seats → IsBelow (transcript old.0)
      → (z : Seat) → Has old.1.seats z → z.station ≡ station → z.port ≡ port → length bytes ≤ 599
      → IsGiven station (output.Made port next.All bytes) old new → IsSaid old.1.seats (transcript new.0) station port bytes
  one_said station port bytes old new same below z h of by short g =
      let w = first_seat old.1.seats station port z h of by in
      at_seat (option_and_then (slice_get old.1.seats) (seat_by old.1.seats station port)) refl g w.0 w.1
    where
      at_seat : (o : Option Seat) → option_and_then (slice_get old.1.seats) (seat_by old.1.seats station port) ≡ o
          → (elim o as (λ o. Type 0) [ None ↦ (new.0 ≡ old.0) × (new.1 ≡ old.1) | Some s ↦ IsMade s next.All bytes old new ])
          → (s : Seat) → option_and_then (slice_get old.1.seats) (seat_by old.1.seats station port) ≡ Some s
          → IsSaid old.1.seats (transcript new.0) station port bytes
      at_seat None e x s f = let bad : None ≡ Some s = sym e ∙ f in cc
      at_seat (Some s) e (inl sent) y f =
          let at = seat_found old.1.seats station port s e in
          record {
            s = s;
            s_at = at.0;
            of = at.1;
            by = at.2;
            stamp = next_stamp (transcript old.0);
            waits = λ z2 h2 on. sent_waits old.1.seats s bytes old.0 new.0 old.1 new.1 below sent z2 h2 on;
          }
      at_seat (Some s) e (inr (same0, same1, inr long)) y f = absurd (omega (arith, long, short))
      at_seat (Some s) e (inr (same0, same1, inl (inl none))) y f =
          let at = seat_found old.1.seats station port s e in
          let here : has_cable old.0.seats s.cable ≡ true =
          has_any (λ (x : Seat). x.cable == s.cable) old.0.seats s (subst (λ l. Has l s) (sym same) at.0) (eq-eqb s.cable s.cable refl) in
          absurd (true≢false (sym here ∙ none))
      at_seat (Some s) e (inr (same0, same1, inl (inr none))) y f =
          let at = seat_found old.1.seats station port s e in
          let here : is_seated old.0.seats s.cable s.station ≡ true =
          has_any (λ (x : Seat). x.cable == s.cable && x.station == s.station) old.0.seats s (subst (λ l. Has l s) (sym same) at.0)
          (and_from _ _ (eq-eqb s.cable s.cable refl) (eq-eqb s.station s.station refl)) in
          absurd (true≢false (sym here ∙ none))

  pub said_step : (old new : Cabling) (seats : List Seat) (station port : ℕ) (bytes : List ℕ) → IsFineStep IsToldOf (Unit {0}) old new
      → IsSaid seats (transcript old) station port bytes → IsSaid seats (transcript new) station port bytes
  said_step old new seats station port bytes x w =
      subst (λ t. IsSaid seats t station port bytes) (sym x.grown) (said_later seats (transcript old) x.added station port bytes (x.calm tt) w)

  all_said : (station port : ℕ) (bytes : List ℕ) (os : List Output) (j : ℕ) (old new : Cabling × Knowing) → old.0.seats ≡ old.1.seats
      → IsBelow (transcript old.0) → (z : Seat) → Has old.1.seats z → z.station ≡ station → z.port ≡ port → length bytes ≤ 599
      → At os j (output.Made port next.All bytes) → Each (MayPut IsToldOf old.1.seats station) os → AreGiven station os old new
      → IsSaid old.1.seats (transcript new.0) station port bytes
  all_said station port bytes [] j old new same below z h of by short e may g = cc
  all_said station port bytes (o ∷ os) zero old new same below z h of by short e may (mid, first, rest) =
      let is : o ≡ output.Made port next.All bytes = cc in
      let s = given_one IsToldOf (Unit {0}) station o old mid may.0 first in
      let here = one_said station port bytes old mid same below z h of by short (subst (λ x. IsGiven station x old mid) is first) in
      said_step mid.0 new.0 old.1.seats station port bytes
      (given_all IsToldOf (Unit {0}) station os mid new (subst (λ x. Each (MayPut IsToldOf x station) os) (sym s.1) may.1) rest) here
  all_said station port bytes (o ∷ os) (suc j) old new same below z h of by short e may (mid, first, rest) =
      let s = given_one IsToldOf (Unit {0}) station o old mid may.0 first in
      let under : IsBelow (transcript mid.0) = subst IsBelow (sym s.0.grown) (calm_below (transcript old.0) s.0.added below (s.0.calm tt)) in
      let both : mid.0.seats ≡ mid.1.seats = s.0.seats ∙ (same ∙ sym s.1) in
      subst (λ x. IsSaid x (transcript new.0) station port bytes) s.1
      (all_said station port bytes os j mid new both under z (subst (λ x. Has x z) (sym s.1) h) of by short e
      (subst (λ x. Each (MayPut IsToldOf x station) os) (sym s.1) may.1) rest)

  -- outputs that go to all are pending for them
  pub gives_said : (station port : ℕ) (bytes : List ℕ) (os : List Output) (j : ℕ) (old new : Wires) → IsLossless IsToldOf (Unit {0}) old
      → IsBelow (happened old) → (z : Seat) → Has old.cabling.seats z → z.station ≡ station → z.port ≡ port → length bytes ≤ 599
      → At os j (output.Made port next.All bytes) → Each (MayPut IsToldOf old.cabling.seats station) os → GivesOut station os old new
      → IsSaid old.cabling.seats (happened new) station port bytes
  gives_said station port bytes os j old new none below z h of by short e may (mid, given, lost, maps, stays) =
      said_step mid.0 new.cabling old.cabling.seats station port bytes
      (lost_step IsToldOf (Unit {0}) _ mid.0 new.cabling (λ l. no_losses IsToldOf (Unit {0}) (loses_by old.losing) none (drop (length old.cabling.lines) (transcript mid.0))) lost)
      (all_said station port bytes os j (old.cabling, knowing old station) mid refl below z h of by short e may given)
