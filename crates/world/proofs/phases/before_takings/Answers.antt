use Rattle.std.proofs.Common.{inl, inr, refl, subst}
use Rattle.std.proofs.lemmas.Result.{IfErr-weaker, on_ok_weaker}
use Rattle.world.proofs.Going.{did_then}
use Rattle.world.specs.Acting.{AreDone}
use Rattle.world.specs.Stopping.{AreActing}
use Rattle.world.proofs.phases.before_takings.Goals as goal

pub returns-clause-did : goal.returns-clause-did
returns-clause-did g c = did_then 5 _ _ _ c.act_all.result c.in-Ok.ensures.did.done c.act_all.ensures.did

pub returns-clause-begins : goal.returns-clause-begins
returns-clause-begins g c =
    on_ok_weaker c.act_all.result
    (λ d. record {
      seats = c.in-Ok.ensures.passed.0;
      wires = c.tick_all.new.wires;
      passes = c.in-Ok.ensures.passed.1;
      actions = d.0;
      does = subst (λ l. AreDone c.args.plan.now l c.args.now d.0 c.args.schedule.now.items c.act_all.new.schedule.items
          (c.tick_all.new.wires, c.args.refused.now.items) (c.act_all.new.wires, c.act_all.new.refused.items)) c.as_slice.ensures.value d.1;
    }) c.act_all.ensures.are_done

pub returns-in-Err-clause-stopped : goal.returns-in-Err-clause-stopped
returns-in-Err-clause-stopped g c = inl (c.in-Err.ensures.stopped, refl, refl)

pub returns-clause-stopped : goal.returns-clause-stopped
returns-clause-stopped g c =
    IfErr-weaker c.act_all.result _ _
    (λ e a. inr (record {
      seats = c.in-Ok.ensures.passed.0;
      wires = c.tick_all.new.wires;
      passes = c.in-Ok.ensures.passed.1;
      acting = subst (λ l. AreActing e c.args.plan.now l c.args.now c.args.schedule.now.items c.act_all.new.schedule.items
          (c.tick_all.new.wires, c.args.refused.now.items) (c.act_all.new.wires, c.act_all.new.refused.items)) c.as_slice.ensures.value a;
    })) c.act_all.ensures.stopped
