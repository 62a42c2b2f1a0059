use Rattle.std.proofs.Common.{rules, ◌≤◌, IfErr, OnOk, inl, inr, refl, subst}
use Rattle.std.proofs.lemmas.Result.{IfErr-weaker, on_ok_weaker}
use Rattle.world.proofs.Stopped.{stop_counted, tick_counted}
use Rattle.world.specs.Stopping.{MayStop}
use Rattle.world.specs.Ticking.{IsTick}
use Rattle.world.specs.Worlds.{Worldly}
use Rattle.world.proofs.world.World.next_tick.Goals as goal

-- There are no more ticks.
pub returns-then-self-ticks-clause-ticked : goal.returns-then-self-ticks-clause-ticked
returns-then-self-ticks-clause-ticked g c =
    let over : c.args.self.now.plan.ticks ≤ c.args.self.now.now = search rules in
    record {
      ticks = search rules;
      ticks_on = tt;
      plays = tt;
      steps_stay = inl (inr over, (refl, refl, refl, refl));
      keeps = search rules;
    }

-- The tick is counted before its phases.
pub returns-clause-ticked : goal.returns-clause-ticked
returns-clause-ticked g c =
    let old : Worldly = record {
      plan = c.self.inside.plan;
      stations = c.self.inside.stations.items;
      wires = c.self.inside.wires;
      now = c.self.inside.passed;
      stopped = c.self.inside.stopped;
      refused = c.self.inside.refused.items;
      schedule = c.self.inside.schedule.items;
    } in
    record {
      ticks = search rules;
      ticks_on = search rules;
      plays =
          subst (λ (w : Worldly). OnOk c.run_tick.result (IsTick w c.run_tick.new.self)) c.self.view_is
          (on_ok_weaker c.run_tick.result (λ t. tick_counted old c.run_tick.new.self _ t) c.run_tick.ensures.plays);
      steps_stay =
          subst (λ (w : Worldly). IfErr c.run_tick.result (λ e. MayStop e w c.run_tick.new.self)) c.self.view_is
          (IfErr-weaker c.run_tick.result _ _ (λ e stops. inr (stop_counted old c.run_tick.new.self _ e stops))
          c.run_tick.ensures.steps_stay);
      keeps = search rules;
    }
