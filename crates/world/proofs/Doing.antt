-- The effect of an action on its node.
use Rattle.std.proofs.Common.{◌≡◌, ◌⊎◌, ◌++◌, ◌∷◌, ℕ, List, [], Result, Ok, Err, IfErr, IfOk, Some, slice_get, inl, inr}
use Rattle.std.proofs.Common.{sym, subst, ap, ◌∙◌}
use Rattle.std.specs.Prelude.{IsOkUnless, OnOk}
use Rattle.std.proofs.lemmas.Result.{on_ok_weaker}
use Rattle.at_base.specs.ErrorNumber.{number_of}
use Rattle.at_base.specs.declared.error.Error.{Error}
use Rattle.at_base.specs.declared.error.Error.TheVariants.{Memory}
use Rattle.station.specs.declared.member.Member.{Member}
use Rattle.internet_file.specs.Files.{Planned}
use Rattle.internet_file.specs.declared.action.Action.{Action}
use Rattle.internet_file.specs.declared.action.Do.{Do}
use Rattle.live_cables.specs.Living.{GivesOut, Wires}
use Rattle.live_node.specs.Living.{LivingNode}
use Rattle.live_router.specs.Living.{Living}
use Rattle.station.specs.declared.output.Output.{Output}
use Rattle.station.specs.declared.way.Way.{Way}
use Rattle.world.specs.Doing.{IsDone, IsDoneBy, acted_by, number_from, put_by, station_for}
use Rattle.world.specs.Stopping.{StopsAction, StopsDoing}

-- ---- The error of an action

pub refused_alone : {U : Type 0} (r : Result U Error) (s : Result Way Error) (data_by : Way → List ℕ) → IfErr s (λ e. r ≡ Err e)
    → IfOk s (λ _. IsOkUnless r Memory) → IfErr r (λ e. (put_by data_by s ≡ Err e) ⊎ (e ≡ Memory))
refused_alone (Ok u) s data_by refused only = tt
refused_alone (Err e) (Ok way) data_by refused only = inr only
refused_alone (Err e) (Err f) data_by refused only = let same : f ≡ e = cc in inl (ap Err same)

-- ---- The effect of an action

pub done_ok : (m : Member Living LivingNode) (station index : ℕ) (action : Do) (outputs : List Output) (old new : Wires × List (ℕ × ℕ))
    → acted_by m action ≡ Ok outputs → GivesOut station outputs old.0 new.0 → new.1 ≡ old.1 → IsDoneBy m station action index old new
done_ok m station index action outputs old new is given same = rw is (given, same)

done_err : (m : Member Living LivingNode) (station index : ℕ) (action : Do) (e : Error) (old new : Wires × List (ℕ × ℕ))
    → acted_by m action ≡ Err e → new.0 ≡ old.0 → new.1 ≡ old.1 ++ (number_from index, number_of e) ∷ []
    → IsDoneBy m station action index old new
done_err m station index action e old new is same noted = rw is (same, noted)

-- An error that was recorded isn't Memory.
pub done_noted : {U : Type 0} (r : Result U Error) (m : Member Living LivingNode) (station index : ℕ) (action : Do) (e : Error)
    (old new : Wires × List (ℕ × ℕ)) → (acted_by m action ≡ Err e) ⊎ (e ≡ Memory) → (e ≡ Memory → r ≡ Err Memory) → new.0 ≡ old.0
    → OnOk r (new.1 ≡ old.1 ++ (number_from index, number_of e) ∷ []) → OnOk r (IsDoneBy m station action index old new)
done_noted r m station index action e old new (inl is) memory same noted =
    on_ok_weaker r (λ n. done_err m station index action e old new is same n) noted
done_noted r m station index action e old new (inr is) memory same noted = rw (memory is) tt

pub done_for : (plan : Planned) (stations : List (Member Living LivingNode)) (index station : ℕ) (action : Action)
    (m : Member Living LivingNode) (old new : Wires × List (ℕ × ℕ)) → slice_get plan.actions index ≡ Some action
    → station ≡ station_for plan action → slice_get stations station ≡ Some m
    → IsDoneBy m station action.action index old new → IsDone plan stations index old new
done_for plan stations index station action m old new at who there does =
    let there2 : slice_get stations (station_for plan action) ≡ Some m = ap (slice_get stations) (sym who) ∙ there in
    rw at (rw there2 (subst (λ s. IsDoneBy m s action.action index old new) who does))

-- ---- An action that was stopped

pub stops_for : (plan : Planned) (stations : List (Member Living LivingNode)) (index station : ℕ) (action : Action)
    (m : Member Living LivingNode) (e : Error) (old new : Wires) → slice_get plan.actions index ≡ Some action
    → station ≡ station_for plan action → slice_get stations station ≡ Some m
    → StopsDoing e m station action.action old new → StopsAction e plan stations index old new
stops_for plan stations index station action m e old new at who there stops = record {
  action = action;
  m = m;
  planned = at;
  there = ap (slice_get stations) (sym who) ∙ there;
  stops = subst (λ s. StopsDoing e m s action.action old new) who stops;
}
