use Rattle.std.proofs.Common.{◌≡◌, ◌<◌, ◌≤◌, ◌⊎◌, ◌+◌, ◌-◌, ◌++◌, ◌∷◌, [], None, Result, Ok, Err, IfErr, OnOk, arith, inl, inr, length, refl, subst}
use Rattle.at_base.specs.declared.error.Error.{Error}
use Rattle.at_base.specs.declared.error.Error.TheVariants.{Full}
use Rattle.live_cables.specs.Steps.{HasNoRoom}
use Rattle.playing.specs.Lives.{Fills, Lives, counts}
use Rattle.playing.specs.Lives.Lives.{Passed}
use Rattle.world.specs.Stopping.{IsStopped, MayStop}
use Rattle.world.specs.Ticking.{IsTick}
use Rattle.world.specs.Worlds.{TicksOn, Worldly}
use Rattle.playing.proofs.ticking.play_tick.Goals as goal

passed : {U : Type 0} (r : Result U Error) (old new : Worldly) → new.plan ≡ old.plan → OnOk r (new.now ≡ old.now + 1)
    → OnOk r (TicksOn old.plan new.now old.wires new.wires) → OnOk r (IsTick old new)
    → OnOk r ((before : Lives old) → (after : Lives new) × (counts new after
    ≡ counts old before ++ (length new.wires.cabling.lines - length old.wires.cabling.lines) ∷ []))
passed (Ok done) old new plan now ticks does = λ lives. (Passed old new lives plan now ticks does, refl)
passed (Err e) old new plan now ticks does = tt

-- A world still satisfies `Lives` after a tick that finished, and one more count is known.
pub returns-clause-lived : goal.returns-clause-lived
returns-clause-lived c =
    passed c.tick-ticked.result c.args.world.now c.tick-ticked.new.self c.tick-ticked.ensures.plan c.tick-ticked.ensures.now
    c.tick-ticked.ensures.ticked.ticks_on
    c.tick-ticked.ensures.ticked.plays

-- A tick within the plan, and after no refusal, was stopped in one of its phases.
in_phase : (old new : Worldly) → old.stopped ≡ None → old.now < old.plan.ticks → MayStop Full old new → IsStopped Full old new
in_phase old new going early (inl (inl stopped, same)) = absurd cc
in_phase old new going early (inl (inr over, same)) = absurd (omega (arith, early, over))
in_phase old new going early (inr (inl (memory, losses, same))) = absurd cc
in_phase old new going early (inr (inr stops)) = stops

pub returns-clause-full : goal.returns-clause-full
returns-clause-full c =
    λ is lives early. by lives early (c.tick-ticked.ensures.over.full c.requires.unstopped is)
    (in_phase c.args.world.now c.tick-ticked.new.self c.requires.unstopped early
    (subst (λ r. IfErr r (λ e. MayStop e c.args.world.now c.tick-ticked.new.self)) is c.tick-ticked.ensures.ticked.steps_stay))
  where
    by : Lives c.args.world.now → c.args.world.now.now < c.args.world.now.plan.ticks
        → (c.args.world.now.plan.ticks ≤ c.args.world.now.now) ⊎ HasNoRoom 1285 c.tick-ticked.new.self.wires.cabling
        → IsStopped Full c.args.world.now c.tick-ticked.new.self → Fills c.args.world.now.plan
    by lives early (inl over) stops = absurd (omega (arith, early, over))
    by lives early (inr none) stops = record {
      before = c.args.world.now;
      of = refl;
      lived = lives;
      early = early;
      after = c.tick-ticked.new.self;
      next = c.tick-ticked.ensures.began c.requires.unstopped early;
      stops = stops;
      ticks = c.tick-ticked.ensures.ticked.ticks;
      limit = c.recall_lived.ensures.limit;
      full = none;
    }
