-- The stations after a step that was refused.
use Rattle.std.proofs.Common.{◌≡◌, ◌≢◌, ◌⊎◌, Contains, arith, inl, inr, ℕ, zero, suc, List, [], ◌∷◌, Option, Some, slice_get, slice_set, refl, ap, ◌∙◌, subst}
use Rattle.std.specs.Prelude.{Err, IfErr, IsOkUnless, Ok, Result}
use Rattle.std.proofs.lemmas.Result.{IfErr-weaker}
use Rattle.at_base.specs.declared.error.Error.{Error}
use Rattle.at_base.specs.declared.error.Error.TheVariants.{Full, Memory}
use Rattle.cable_model.specs.Logs.{pending_on}
use Rattle.cable_model.specs.Outcomes.{IsLeast}
use Rattle.cable_model.specs.Pending.{Pair}
use Rattle.live_cables.specs.Living.{IsLossRefused, TakesIn, Wires}
use Rattle.live_cables.specs.Steps.{HasNoRoom}
use Rattle.live_node.specs.Living.{LivingNode, LiveHears as NodeHears}
use Rattle.live_router.specs.Living.{Living, LiveHears as RouterHears}
use Rattle.station.specs.Members.{EitherHears}
use Rattle.station.specs.declared.member.Member.{Member}
use Rattle.planned_stations.specs.Planning.{ports_of}
use Rattle.world.specs.Stopping.{MayStop, MayTake, StopsTick}
use Rattle.world.specs.Taking.{IsTaker}
use Rattle.world.specs.Ticking.{IsTick}
use Rattle.world.specs.Worlds.{Worldly}

-- An element is replaced by itself.
set_itself : {X : Type 0} (xs : List X) (k : ℕ) (x : X) → slice_get xs k ≡ Some x → slice_set xs k x ≡ xs
set_itself [] k x at = refl
set_itself (y ∷ xs) zero x at = let is : y ≡ x = cc in cc
set_itself (y ∷ xs) (suc k) x at = ap (λ l. y ∷ l) (set_itself xs k x at)

-- What holds where memory ran out, holds after an error that can be nothing else.
pub memory_error : {T : Type 0} (r : Result T Error) (Q : Error → Type 0) → IsOkUnless r Memory → ((e : Error) → e ≡ Memory → Q e)
    → IfErr r Q
memory_error (Ok x) Q refused f = tt
memory_error (Err e) Q refused f = f e refused

-- A station took a frame, or it stays the same.
module _ (ms : List (Member Living LivingNode)) (k stamp : ℕ) (old new : Wires) (before after : Member Living LivingNode)
    (at : slice_get ms k ≡ Some before) where
  abbrev TakesIt : Type 0
  TakesIt = TakesIn stamp k (ports_of before) (λ heard added. EitherHears RouterHears NodeHears before heard added after) old new

  abbrev TakesOrStays : Error → Type 0
  TakesOrStays e =
      ((slice_set ms k after ≡ ms) × (new ≡ old))
      ⊎ (IsTaker stamp k ms (slice_set ms k after) old new × IsLossRefused e old new)

  takes_or_stays : (e : Error) → ((new ≡ old) × (after ≡ before)) ⊎ (TakesIt × IsLossRefused e old new) → TakesOrStays e
  takes_or_stays e (inl same) = inl (ap (slice_set ms k) same.1 ∙ set_itself ms k before at, same.0)
  takes_or_stays e (inr x) =
      inr (
        record {
          m = before;
          after = after;
          there = at;
          does = x.0;
          set = refl;
        },
        x.1,
      )

  pub take_stopped : {U : Type 0} (r : Result U Error)
      → IfErr r (λ e. ((new ≡ old) × (after ≡ before)) ⊎ (TakesIt × IsLossRefused e old new)) → IfErr r TakesOrStays
  take_stopped r x = IfErr-weaker r _ _ takes_or_stays x

-- Where there is a first pending frame, some are pending.
some_pending : (pairs : List Pair) (stamp station : ℕ) → IsLeast pairs stamp station → pairs ≢ []
some_pending pairs stamp station least = λ none.
    (let there = subst (λ (l : List Pair). Contains l least.there.0) none least.there.1 in absurd (omega (arith, there.1)))

-- The taking of the first frame was refused.
pub first_stopped : (stamp station : ℕ) (ms now : List (Member Living LivingNode)) (old new : Wires) (e : Error)
    → IsLeast (pending_on old.cabling) stamp station → (HasNoRoom 1285 old.cabling → e ≡ Full)
    → (e ≡ Full → HasNoRoom 1285 new.cabling)
    → ((now ≡ ms) × (new ≡ old)) ⊎ (IsTaker stamp station ms now old new × IsLossRefused e old new)
    → MayTake e ms now old new
first_stopped stamp station ms now old new e least room full (inl same) =
    inl (same.0, same.1, some_pending _ _ _ least, (λ is. subst (λ (w : Wires). HasNoRoom 1285 w.cabling) same.1 (full is), room))
first_stopped stamp station ms now old new e least room full (inr taken) =
    inr (record { stamp = stamp; station = station; least = least; by = taken.0 }, taken.1)

-- A tick is counted before its phases.
pub tick_counted : (old new : Worldly) (now : ℕ) → IsTick (record old { now = now }) new → IsTick old new
tick_counted old new now x = record { losing = x.losing; loses = x.loses; plays = x.plays }

pub stop_counted : (old new : Worldly) (now : ℕ) (e : Error) → StopsTick e (record old { now = now }) new → StopsTick e old new
stop_counted old new now e (inl none) = inl none
stop_counted old new now e (inr x) = inr (record { losing = x.losing; loses = x.loses; stops = x.stops })

-- The error of a tick is recorded, and nothing else changes.
pub may_stop_noted : (old new : Worldly) (e : Error) (noted : Option Error) → MayStop e old new
    → MayStop e old (record new { stopped = noted })
may_stop_noted old new e noted (inl none) = inl none
may_stop_noted old new e noted (inr (inl none)) = inr (inl none)
may_stop_noted old new e noted (inr (inr x)) = inr (inr (record { losing = x.losing; loses = x.loses; stops = x.stops }))
