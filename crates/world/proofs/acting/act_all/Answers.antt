use Rattle.std.proofs.Common.{◌≡◌, ℕ, List, [], Some, refl, sym, subst, append-nil, suc}
use Rattle.live_cables.specs.Living.{Wires}
use Rattle.world.proofs.Acted.{all_done, one_more}
use Rattle.world.proofs.Going.{did_then, goes_none, goes_on_then}
use Rattle.world.proofs.Kept.{kept_on}
use Rattle.world.specs.Acting.{IsOver, tick_of}
use Rattle.world.specs.Stopping.{AreFirstDone}
use Rattle.world.proofs.acting.act_all.Goals as goal

pub loop-index-init : goal.loop-index-init
loop-index-init g c = ((0, (refl, refl)), ([], sym (append-nil c.args.refused.now.items)), goes_none _)

pub loop-index-preserved : goal.loop-index-preserved
loop-index-preserved g c =
    let before = c.loop-index.invariant in
    let found = c.in-Some.ensures {u = tt} in
    let acted = c.in-Ok.ensures {u = tt} in
    let due = subst (λ l. tick_of l c.in-Some.index ≡ Some c.args.now) c.actions.ensures.value found.due in (
      (
        suc before.0.0,
        one_more c.args.plan.now c.args.stations.now c.args.now before.0.0 _ _ _ c.in-Some.index _ _ _ before.0.1 found.last due
            acted.is_done,
      ),
      kept_on c.args.refused.now.items c.loop-index.refused.items c.act_one.new.refused.items before.1 acted.keeps,
      goes_on_then 0 _ _ _ before.2 0 0 refl acted.did.done,
    )

pub returns-in-Err-clause-did : goal.returns-in-Err-clause-did
returns-in-Err-clause-did g c =
    did_then 5 _ _ _ _ c.loop-index.invariant.2 (c.in-Err.ensures {u = tt}).did

pub returns-clause-are_done : goal.returns-clause-are_done
returns-clause-are_done g c =
    let before = c.loop-index.invariant.0 in
    let none = c.in_default.ensures {u = tt} in
    let plan = c.args.plan.now in
    let stations = c.args.stations.now in
    let now = c.args.now in
    let schedule = c.args.schedule.now.items in
    let left = c.next_due.new.schedule.items in
    let old : Wires × List (ℕ × ℕ) = (c.args.wires.now, c.args.refused.now.items) in
    let new : Wires × List (ℕ × ℕ) = (c.loop-index.wires, c.loop-index.refused.items) in (
      before.0,
      all_done plan stations now before.0 schedule left old new
          (subst (λ l. AreFirstDone plan stations now before.0 schedule l old new) (sym none.none) before.1)
          (subst (λ l. IsOver plan.actions now l) (sym none.none)
          (subst (λ l. IsOver l now c.loop-index.schedule.items) c.actions.ensures.value none.over)),
    )
