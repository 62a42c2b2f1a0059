-- Steps of a tick, one after the other.
use Rattle.std.proofs.Common.{◌≡◌, ℕ, ◌+◌, Bool, not, cond, IsTrue, List, [], ◌∷◌, ◌++◌, refl, sym, ap, ◌∙◌, subst, arith}
use Rattle.std.proofs.Common.{append-nil, append_assoc}
use Rattle.std.proofs.lemmas.Result.{on_ok_weaker}
use Rattle.std.specs.List.{list_any}
use Rattle.std.specs.Prelude.{◌⊎◌, Result, Err, IfErr, OnOk}
use Rattle.at_base.specs.declared.error.Error.{Error}
use Rattle.at_base.specs.declared.error.Error.TheVariants.{Full, Memory}
use Rattle.cable_model.proofs.Counting.{count-append}
use Rattle.cable_model.proofs.Stamps.{once_front}
use Rattle.cable_model.specs.Pending.{Pair, pending}
use Rattle.cable_model.specs.Transcript.{ArePutOnce, Entry, Sent, Put, Took, Reached, Dropped, Lost, Hold}
use Rattle.cable_model.specs.declared.seat.Seat.{Seat}
use Rattle.live_cables.proofs.Played.{lost_then, nothing_lost, nothing_played, played_then}
use Rattle.live_cables.specs.Living.{AddsAllowed, PlaysOn, Wires, happened, loses}
use Rattle.live_cables.specs.Playing.{IsPlayed, are_allowed, are_lost, is_in, is_took, losses}
use Rattle.live_cables.specs.Steps.{HasNoRoom, loses_by}
use Rattle.world.specs.Going.{Did, Ends, AddsIfNumbered, GoesOn}

pub goes_none : (w : Wires) → GoesOn 0 w w
goes_none w = record {
  goes = record {
    added = [];
    grown = sym (append-nil (happened w));
    seats = refl;
    limit = refl;
    losing = refl;
    played = λ n. nothing_played w.cabling.seats (loses w) (happened w);
  };
  takes = refl;
  lost = λ n. nothing_lost w.cabling.seats (loses w) (happened w);
}

pub goes_nowhere : (w : Wires) → AddsIfNumbered w w
goes_nowhere w = (goes_none w).goes

pub goes_plays : (old new : Wires) → AddsAllowed old new → AddsIfNumbered old new
goes_plays old new x = record {
  added = x.added;
  grown = x.grown;
  seats = x.seats;
  limit = x.limit;
  losing = x.losing;
  played = λ n. x.played;
}

pub goes_plays_on : (taken : ℕ) (old new : Wires) → PlaysOn taken old new → GoesOn taken old new
unfolding goes_plays
goes_plays_on taken old new x = record {
  goes = goes_plays old new x.plays;
  takes = x.takes;
  lost = λ n. x.lost;
}

-- ---- Two steps

module _ (taken : ℕ) (a b c : Wires) (x : GoesOn taken a b) where
  module _ (y : AddsIfNumbered b c) where
    joined : happened c ≡ (happened a ++ x.goes.added) ++ y.added
    joined = y.grown ∙ ap (λ l. l ++ y.added) x.goes.grown

    first : ArePutOnce (happened c) → ArePutOnce (happened b)
    first n = once_front (happened b) y.added (subst ArePutOnce y.grown n)

    later : ArePutOnce (happened c) → IsPlayed a.cabling.seats (loses a) (happened a ++ x.goes.added) y.added
    later n =
        subst (λ s. IsPlayed s (loses a) (happened a ++ x.goes.added) y.added) x.goes.seats
        (subst (λ l. IsPlayed b.cabling.seats (loses_by l) (happened a ++ x.goes.added) y.added) x.goes.losing
        (subst (λ t. IsPlayed b.cabling.seats (loses b) t y.added) x.goes.grown (y.played n)))

    pub goes_then : AddsIfNumbered a c
    goes_then = record {
      added = x.goes.added ++ y.added;
      grown = joined ∙ append_assoc (happened a) x.goes.added y.added;
      seats = y.seats ∙ x.goes.seats;
      limit = y.limit ∙ x.goes.limit;
      losing = y.losing ∙ x.goes.losing;
      played =
          λ n. played_then a.cabling.seats (loses a) (happened a) x.goes.added y.added (subst ArePutOnce joined n)
          (x.goes.played (first n)) (x.lost (first n)) (later n);
    }

  pub goes_on_then : (more sum : ℕ) → sum ≡ taken + more → GoesOn more b c → GoesOn sum a c
  unfolding goes_then
  goes_on_then more sum is y =
      let counts = count-append is_took x.goes.added y.goes.added in
      let before = x.takes in
      let after = y.takes in
      record {
        goes = goes_then y.goes;
        takes = omega (arith, counts, before, after, is);
        lost =
            λ n. lost_then a.cabling.seats (loses a) (happened a) x.goes.added y.goes.added (subst ArePutOnce (joined y.goes) n)
            (x.lost (first y.goes n))
            (subst (λ s. IsTrue (are_lost s (loses a) (happened a ++ x.goes.added) y.goes.added)) x.goes.seats
            (subst (λ l. IsTrue (are_lost b.cabling.seats (loses_by l) (happened a ++ x.goes.added) y.goes.added)) x.goes.losing
            (subst (λ t. IsTrue (are_lost b.cabling.seats (loses b) t y.goes.added)) x.goes.grown (y.lost n))));
      }

  pub ends_then : (most : ℕ) → taken ≡ 0 → Ends most b c → Ends most a c
  ends_then most none y = record {
    taken = y.taken;
    goes_on = goes_on_then y.taken y.taken (omega (arith, none)) y.goes_on;
    few = y.few;
    ended = y.ended;
  }

-- ---- Two steps, of which the second may be refused

pub did_then : {A : Type 0} (room : ℕ) (a b c : Wires) (r : Result A Error) → GoesOn 0 a b → Did (GoesOn 0 b c) room b c r
    → Did (GoesOn 0 a c) room a c r
did_then room a b c r x y = record {
  goes = goes_then 0 a b c x y.goes;
  done = on_ok_weaker r (λ d. goes_on_then 0 a b c x 0 0 (omega arith) d) y.done;
  full = y.full;
  refused = y.refused;
}

pub did_end : {A : Type 0} (most room : ℕ) (a b c : Wires) (r : Result A Error) → GoesOn 0 a b → Did (Ends most b c) room b c r
    → Did (Ends most a c) room a c r
did_end most room a b c r x y = record {
  goes = goes_then 0 a b c x y.goes;
  done = on_ok_weaker r (λ d. ends_then 0 a b c x most refl d) y.done;
  full = y.full;
  refused = y.refused;
}

-- what a call of the cables did
pub did_play : {A : Type 0} (room : ℕ) (a b : Wires) (r : Result A Error) → AddsAllowed a b → OnOk r (PlaysOn 0 a b)
    → (r ≡ Err Full → HasNoRoom room b.cabling) → IfErr r (λ e. (e ≡ Full) ⊎ (e ≡ Memory)) → Did (GoesOn 0 a b) room a b r
did_play room a b r plays on full refused = record {
  goes = goes_plays a b plays;
  done = on_ok_weaker r (λ d. goes_plays_on 0 a b d) on;
  full = full;
  refused = refused;
}

-- ---- Addresses that settle

-- Steps that follow after addresses have settled follow from the state before.
module _ (old mid new : Wires) (settled : mid ≡ record old { own = mid.own }) where
  pub goes_settled : AddsIfNumbered mid new → AddsIfNumbered old new
  goes_settled x = by (subst (λ w. AddsIfNumbered w new) settled x)
    where
      by : AddsIfNumbered (record old { own = mid.own }) new → AddsIfNumbered old new
      by y = record { added = y.added; grown = y.grown; seats = y.seats; limit = y.limit; losing = y.losing; played = y.played }

  pub goes_on_settled : (taken : ℕ) → GoesOn taken mid new → GoesOn taken old new
  goes_on_settled taken x = by (subst (λ w. GoesOn taken w new) settled x)
    where
      by : GoesOn taken (record old { own = mid.own }) new → GoesOn taken old new
      by y = record {
        goes = record {
          added = y.goes.added;
          grown = y.goes.grown;
          seats = y.goes.seats;
          limit = y.goes.limit;
          losing = y.goes.losing;
          played = y.goes.played;
        };
        takes = y.takes;
        lost = y.lost;
      }

-- ---- The same cables lose frames

module _ (f g : ℕ → Bool) (same : (cable : ℕ) → f cable ≡ g cable) where
  losses_same : (es : List Entry) → losses f es ≡ losses g es
  losses_same [] = refl
  losses_same (Sent s x ∷ es) = losses_same es
  losses_same (Took p s ∷ es) = losses_same es
  losses_same (Reached c s w x ∷ es) = losses_same es
  losses_same (Dropped r c x ∷ es) = losses_same es
  losses_same (Lost p ∷ es) = losses_same es
  losses_same (Hold h ∷ es) = losses_same es
  losses_same (Put frame ∷ es) =
      ap (λ b. cond b (frame.stamp ∷ losses f es) (losses f es)) (same frame.cable)
      ∙ ap (λ l. cond (g frame.cable) (frame.stamp ∷ l) l) (losses_same es)

  pub played_same : (seats : List Seat) (t es : List Entry) → IsPlayed seats f t es → IsPlayed seats g t es
  played_same seats t es x = record {
    due = x.due;
    each = subst (λ l. IsTrue (are_allowed l t es)) (losses_same es) x.each;
  }

  pub lost_same : (seats : List Seat) (t es : List Entry) → IsTrue (are_lost seats f t es) → IsTrue (are_lost seats g t es)
  lost_same seats t es =
      subst (λ l. IsTrue (not (list_any (λ (p : Pair). is_in l p.frame.stamp) (pending seats (t ++ es))))) (losses_same es)
