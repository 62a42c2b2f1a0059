-- What a tick leaves, whether or not it finished.
use Rattle.std.specs.Prelude.{◌≡◌, ◌⊎◌, ◌≤◌, Result, Err, None, Some, IfErr, IfSome, OnOk}
use Rattle.at_base.specs.declared.error.Error.{Error}
use Rattle.at_base.specs.declared.error.Error.TheVariants.{Full}
use Rattle.live_cables.specs.Steps.{HasNoRoom, most_taken}
use Rattle.world.specs.Acting.{KeepsFirst}
use Rattle.world.specs.Stopping.{MayStop}
use Rattle.world.specs.Ticking.{IsTick}
use Rattle.world.specs.Worlds.{Ticks, TicksOn, Worldly}

-- What was done: if the tick finished, a whole tick, and otherwise the steps before the one that was refused.
pub record Ticked {A : Type 0} (old new : Worldly) (result : Result A Error) : Type 0 where
  pub ticks : Ticks old.plan new.now old.wires new.wires
  pub ticks_on : OnOk result (TicksOn old.plan new.now old.wires new.wires)
  pub plays : OnOk result (IsTick old new)
  pub steps_stay : IfErr result (λ e. MayStop e old new)
  pub keeps : KeepsFirst old.refused new.refused

-- A tick after the plan's last one is refused and changes only `stopped`; one within the plan is full only if the
-- transcript has no room.
pub record Over {A : Type 0} (old new : Worldly) (result : Result A Error) : Type 0 where
  pub over : old.stopped ≡ None → old.plan.ticks ≤ old.now → result ≡ Err Full
  pub over_stays : old.stopped ≡ None → old.plan.ticks ≤ old.now → new ≡ record old { stopped = Some Full }
  pub full : old.stopped ≡ None → result ≡ Err Full → (old.plan.ticks ≤ old.now) ⊎ HasNoRoom most_taken new.wires.cabling

-- The error of the first tick that is refused is the one of each later tick, which changes nothing.
pub record Stops {A : Type 0} (old new : Worldly) (result : Result A Error) : Type 0 where
  pub again : IfSome old.stopped (λ e. (result ≡ Err e) × (new ≡ old))
  pub stops : IfErr result (λ e. new.stopped ≡ Some e)
  pub goes_on : OnOk result (new.stopped ≡ None)
