-- Calls that were refused before they were done.
use Rattle.std.proofs.Common.{◌≡◌, ◌↔◌, ℕ, zero, suc, ◌≤◌, ◌<◌, ◌-◌, List, [], ◌∷◌, Option, Result, Err, refl, ap, ◌∙◌, subst, arith, drop, length, slice_get, take}
use Rattle.std.specs.Prelude.{slice_index_or}
use Rattle.std.proofs.Math.Seq.{take-length}
use Rattle.std.proofs.lemmas.List.{length-take}
use Rattle.at_base.specs.declared.address.Addr.{Addr}
use Rattle.at_base.specs.declared.error.Error.{Error}
use Rattle.at_base.specs.declared.error.Error.TheVariants.{Full}
use Rattle.cable_model.specs.Logs.{Cabling}
use Rattle.cable_model.specs.declared.seat.Seat.{Seat}
use Rattle.live_cables.specs.Finding.{Knowing}
use Rattle.live_cables.specs.Living.{SendsUpTo, Stays, Wires, knowing}
use Rattle.live_cables.specs.Putting.{AreAsked, AreGivenUpTo, IsAsked, IsGiven, room_of}
use Rattle.live_cables.specs.Steps.{HasNoRoom}
use Rattle.station.specs.declared.output.Output.{Output}

-- The first output was refused, and nothing changed.
pub refused_first : (station : ℕ) (o : Output) (os all : List Output) (old new : Cabling × Knowing) (e : Error) → all ≡ o ∷ os
    → (new.0 ≡ old.0) × (new.1 ≡ old.1) → (room_of old.1.seats station o ≡ 0 → ⊥)
    → (◌≡◌ {A = Result (Unit {0}) Error} (Err e) (Err Full) ↔ ((1 ≤ room_of old.1.seats station o) × HasNoRoom (room_of old.1.seats station o) old.0))
    → AreGivenUpTo e station all os old new
refused_first station o os all old new e is same some full =
    let needs : 1 ≤ room_of old.1.seats station o = some_is _ some in
    record {
      sent = [];
      next = o;
      all = is;
      given = same;
      needs = rw same.1 needs;
      full = rw (same.0, same.1) (λ x. (full.0 (ap Err x)).1, λ x. let said = full.1 (needs, x) in cc);
    }
  where
    some_is : (n : ℕ) → (n ≡ 0 → ⊥) → 1 ≤ n
    some_is zero h = absurd (h refl)
    some_is (suc n) h = omega arith

-- One more output was sent before the first of others.
pub given_more : (station : ℕ) (o : Output) (all : List Output) (e : Error) (os left : List Output) (a b c : Cabling × Knowing)
    → all ≡ o ∷ os → IsGiven station o a b → AreGivenUpTo e station os left b c → AreGivenUpTo e station all left a c
given_more station o all e os left a b c is first rest = record {
  sent = o ∷ rest.sent;
  next = rest.next;
  all = is ∙ ap (λ l. o ∷ l) rest.all;
  given = (b, first, rest.given);
  needs = rest.needs;
  full = rest.full;
}

-- One more request was sent before the first of others.
pub asked_more : (seat : Option Seat) (own : Option (Option Addr)) (addrs : List Addr) (n : ℕ) (d : Addr) (a b c : Cabling)
    → 1 ≤ length addrs → IsAsked seat own (slice_index_or addrs 0 d) a b
    → AreAsked seat own (take n (take (length addrs - 1) (drop 1 addrs))) b c → AreAsked seat own (take (suc n) addrs) a c
asked_more seat own [] n d a b c some x y = absurd (omega (arith, some))
asked_more seat own (addr ∷ addrs) n d a b c some x y =
    let less : length (addr ∷ addrs) - 1 ≡ length addrs = omega arith in
    (b, x, subst (λ l. AreAsked seat own (take n l) b c) (ap (λ k. take k addrs) less ∙ take-length addrs) y)

-- What is a place of the rest of a list is, one further, a place of the list.
pub one_more : {X : Type 0} (xs : List X) (n : ℕ) → 1 ≤ length xs → n < length (take (length xs - 1) (drop 1 xs))
    → suc n < length xs
one_more [] n some less = absurd (omega (arith, some))
one_more (x ∷ xs) n some less =
    let few = length-take (length (x ∷ xs) - 1) xs in omega (arith, less, few)

-- Outputs were sent, under the names that the call gives its parts.
pub sends_now : (old new : Wires) (station : ℕ) (e : Error) (outputs left : List Output) (near : Knowing) (mid : Cabling × Knowing)
    → near ≡ knowing old station → AreGivenUpTo e station outputs left (old.cabling, near) mid → new.cabling ≡ mid.0
    → new.maps ≡ mid.1.maps → Stays old new → SendsUpTo e station outputs left old new
sends_now old new station e outputs left near mid is given cables maps stays =
    (mid, subst (λ k. AreGivenUpTo e station outputs left (old.cabling, k) mid) is given, cables, maps, stays)

-- Requests were sent, under the names that the call gives its parts.
pub asks_now : (near ticked : Knowing) (c : Cabling) (seat : ℕ) (asks addrs : List Addr) (new : Cabling)
    → ticked.seats ≡ c.seats → ticked.own ≡ near.own → asks ≡ addrs
    → AreAsked (slice_get ticked.seats seat) (slice_get ticked.own seat) asks c new
    → AreAsked (slice_get c.seats seat) (slice_get near.own seat) addrs c new
asks_now near ticked c seat asks addrs new seats own same h =
    subst (λ (s : List Seat). AreAsked (slice_get s seat) (slice_get near.own seat) addrs c new) seats
    (subst (λ l. AreAsked (slice_get ticked.seats seat) (slice_get l seat) addrs c new) own
    (subst (λ l. AreAsked (slice_get ticked.seats seat) (slice_get ticked.own seat) l c new) same h))
