-- Datagrams that are given up at the end of a call.
use Rattle.std.proofs.Common.{◌≡◌, ℕ, Bool, true, false, ◌&&◌, cond, List, [], ◌∷◌, ◌++◌, Option, Some, None}
use Rattle.std.proofs.Common.{refl, ap, ◌∙◌, subst, arith, append_assoc, suc, ◌-◌, ◌≤◌, drop, length, take}
use Rattle.std.specs.Prelude.{slice_index_or}
use Rattle.std.specs.List.{list_all}
use Rattle.std.proofs.lemmas.List.Folds.{list_all-append}
use Rattle.cable_model.specs.Holdings.{is_open}
use Rattle.cable_model.specs.Logs.{Adds, Cabling, transcript}
use Rattle.cable_model.specs.Outgoing.{let_go, losses as lost_one}
use Rattle.cable_model.specs.Pending.{pairs}
use Rattle.cable_model.specs.Transcript.{Entry, Sent, Put, Took, Reached, Dropped, Lost, Hold}
use Rattle.cable_model.specs.declared.seat.Seat.{Seat}
use Rattle.cable_model.proofs.Counting.{count-append}
use Rattle.live_cables.proofs.Calls.{calm_after, calm_takes}
use Rattle.live_cables.proofs.Calm.{calm-append, let_go_calm}
use Rattle.live_cables.proofs.Played.{lost_after}
use Rattle.live_cables.specs.Holding.{AreShed}
use Rattle.live_cables.specs.Living.{AddsAllowed, PlaysOn, Stays, Wires, happened, loses}
use Rattle.live_cables.specs.Playing.{is_took, losses}
use Rattle.live_cables.specs.Steps.{Puts, are_calm}

-- The entry is a loss.
abbrev pub is_lost : Entry → Bool
is_lost (Lost stamp) = true
is_lost _ = false

-- All entries are losses.
abbrev pub are_losses : List Entry → Bool
are_losses es = list_all is_lost es

no_losses : (losing : ℕ → Bool) (es : List Entry) → are_losses es ≡ true → losses losing es ≡ []
no_losses losing [] h = refl
no_losses losing (Lost p ∷ es) h = no_losses losing es h
no_losses losing (Sent s x ∷ es) h = cc
no_losses losing (Put f ∷ es) h = cc
no_losses losing (Took p s ∷ es) h = cc
no_losses losing (Reached c s w x ∷ es) h = cc
no_losses losing (Dropped r c x ∷ es) h = cc
no_losses losing (Hold d ∷ es) h = cc

no_pairs : (seats : List Seat) (es : List Entry) → are_losses es ≡ true → pairs seats es ≡ []
no_pairs seats [] h = refl
no_pairs seats (Lost p ∷ es) h = no_pairs seats es h
no_pairs seats (Sent s x ∷ es) h = cc
no_pairs seats (Put f ∷ es) h = cc
no_pairs seats (Took p s ∷ es) h = cc
no_pairs seats (Reached c s w x ∷ es) h = cc
no_pairs seats (Dropped r c x ∷ es) h = cc
no_pairs seats (Hold d ∷ es) h = cc

-- Only losses of held datagrams were added; the seats and the limit stay the same.
pub record Sheds (old new : Cabling) : Type 0 where
  pub puts : Puts old new
  pub only : are_losses puts.added ≡ true

let_go_only : (t : List Entry) (shed : Option ℕ) → are_losses (let_go t shed) ≡ true
let_go_only t None = refl
let_go_only t (Some stamp) = by (is_open t stamp)
  where
    by : (b : Bool) → are_losses (lost_one (cond b (Some stamp) None)) ≡ true
    by true = refl
    by false = refl

-- A datagram that was given up, if it was held.
pub shed_one : (old new : Cabling) (shed : Option ℕ) → Adds old new (let_go (transcript old) shed) → Sheds old new
shed_one old new shed x = record {
  puts = record {
    added = let_go (transcript old) shed;
    grown = x.added;
    calm = let_go_calm (transcript old) shed;
    seats = x.seats;
    limit = x.limit;
  };
  only = let_go_only (transcript old) shed;
}

sheds_then : (a b c : Cabling) → Sheds a b → Sheds b c → Sheds a c
sheds_then a b c x y =
    let p = x.puts in
    let q = y.puts in
    record {
      puts = record {
        added = p.added ++ q.added;
        grown = q.grown ∙ (ap (λ l. l ++ q.added) p.grown ∙ append_assoc (transcript a) p.added q.added);
        calm = calm-append (transcript a) p.added q.added p.calm (subst (λ l. are_calm l q.added ≡ true) p.grown q.calm);
        seats = q.seats ∙ p.seats;
        limit = q.limit ∙ p.limit;
      };
      only = list_all-append is_lost p.added q.added ∙ (ap (λ b. b && are_losses q.added) x.only ∙ y.only);
    }

-- Datagrams that were given up, in order.
pub sheds_of : (ss : List ℕ) (old new : Cabling) → AreShed ss old new → Sheds old new
sheds_of [] old new x = record {
  puts = record { added = []; grown = x.added; calm = refl; seats = x.seats; limit = x.limit };
  only = refl;
}
sheds_of (s ∷ ss) old new x =
    sheds_then old x.0 new (shed_one old x.0 (Some s) x.1) (sheds_of ss x.0 new x.2)

pub puts_shed : (ss : List ℕ) (old new : Cabling) → AreShed ss old new → Puts old new
puts_shed ss old new x = (sheds_of ss old new x).puts

pub shed_rooms : (ss : List ℕ) (old new : Cabling) → AreShed ss old new → new.rooms ≡ old.rooms
shed_rooms [] old new x = x.rooms
shed_rooms (s ∷ ss) old new x = shed_rooms ss x.0 new x.2 ∙ x.1.rooms

take_all : {X : Type 0} (xs : List X) → take (length xs) xs ≡ xs
take_all [] = refl
take_all (x ∷ xs) = ap (λ l. x ∷ l) (take_all xs)

-- One more datagram was given up before the first of others.
pub part_more : (stamps : List ℕ) (n : ℕ) (old mid new : Cabling) → 1 ≤ length stamps
    → Adds old mid (let_go (transcript old) (Some (slice_index_or stamps 0 0)))
    → AreShed (take n (take (length stamps - 1) (drop 1 stamps))) mid new → AreShed (take (suc n) stamps) old new
part_more [] n old mid new some x y = absurd (omega (arith, some))
part_more (s ∷ ss) n old mid new some x y =
    let less : length (s ∷ ss) - 1 ≡ length ss = omega arith in
    (mid, x, subst (λ l. AreShed (take n l) mid new) (ap (λ k. take k ss) less ∙ take_all ss) y)

-- ---- The whole call

module _ (old new : Wires) (mid : Cabling) (stays : Stays old new) where
  -- A call whose last step changed nothing.
  pub plays_still : AddsAllowed old (record old { cabling = mid }) → new.cabling ≡ mid → AddsAllowed old new
  plays_still p e = record {
    added = p.added;
    grown = ap transcript e ∙ p.grown;
    played = p.played;
    seats = ap (λ c. c.seats) e ∙ p.seats;
    limit = ap (λ c. c.limit) e ∙ p.limit;
    own = stays.own;
    ranges = stays.ranges;
    losing = stays.losing;
  }

  module _ (ss : List ℕ) (shed : AreShed ss mid new.cabling) where
    -- The losses at the end.
    last : Sheds mid new.cabling
    last = sheds_of ss mid new.cabling shed

    -- A call that gave up datagrams at last.
    pub shed_plays : AddsAllowed old (record old { cabling = mid }) → AddsAllowed old new
    shed_plays p =
        let q = last.puts in
        let calm = subst (λ l. are_calm l q.added ≡ true) p.grown q.calm in
        record {
          added = p.added ++ q.added;
          grown = q.grown ∙ (ap (λ l. l ++ q.added) p.grown ∙ append_assoc (happened old) p.added q.added);
          played =
              calm_after old.cabling.seats (loses old) (happened old) p.added q.added p.played
              (no_losses (loses old) q.added last.only) calm;
          seats = q.seats ∙ p.seats;
          limit = q.limit ∙ p.limit;
          own = stays.own;
          ranges = stays.ranges;
          losing = stays.losing;
        }

    -- A call that gave up datagrams at last and finished.
    pub shed_done : (taken : ℕ) → PlaysOn taken old (record old { cabling = mid }) → PlaysOn taken old new
    unfolding shed_plays
    shed_done taken d =
        let p = d.plays in
        let q = last.puts in
        let none = calm_takes (transcript mid) q.added q.calm in
        let sum = count-append is_took p.added q.added in
        let takes = d.takes in
        record {
          plays = shed_plays p;
          takes = omega (arith, sum, none, takes);
          lost =
              lost_after old.cabling.seats (loses old) (happened old) p.added q.added (no_losses (loses old) q.added last.only)
              (no_pairs old.cabling.seats q.added last.only) d.lost;
        }
