use Rattle.std.proofs.Common.{◌≤◌, ◌⊎◌, ◌∙◌, Some, ap, inl, refl, rules, subst, sym}
use Rattle.live_cables.specs.Steps.{HasNoRoom}
use Rattle.world.proofs.Stopped.{may_stop_noted}
use Rattle.world.specs.Stopping.{MayStop}
use Rattle.world.specs.Worlds.{Worldly}
use Rattle.world.proofs.world.World.tick.Goals as goal

-- An earlier tick was refused.
pub returns-in-Some-clause-ticked : goal.returns-in-Some-clause-ticked
returns-in-Some-clause-ticked g c = record {
  ticks = search rules;
  ticks_on = tt;
  plays = tt;
  steps_stay = inl (inl (ap (λ (w : Worldly). w.stopped) (sym c.self.view_is) ∙ c.in-Some.is), (refl, refl, refl, refl));
  keeps = search rules;
}

-- The error is recorded, and the cables stay as the failed tick left them.
pub returns-in-Err-clause-over : goal.returns-in-Err-clause-over
returns-in-Err-clause-over g c = record {
  over = search rules;
  over_stays = search rules;
  full =
      λ stopped is.
      subst (λ (w : Worldly). (c.args.self.now.plan.ticks ≤ c.args.self.now.now) ⊎ HasNoRoom 1285 w.wires.cabling) (sym c.self-2.view_is)
      (c.in-Err.ensures.full is);
}

-- The error is recorded, and the stations stay as the failed tick left them.
pub returns-in-Err-clause-ticked : goal.returns-in-Err-clause-ticked
returns-in-Err-clause-ticked g c = record {
  ticks = search rules;
  ticks_on = tt;
  plays = tt;
  steps_stay =
      may_stop_noted c.args.self.now _ c.in-Err.error (Some c.in-Err.error)
      (subst (MayStop c.in-Err.error c.args.self.now) (sym c.self-2.view_is) c.in-Err.ensures.ticked.steps_stay);
  keeps = search rules;
}
