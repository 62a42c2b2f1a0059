use Rattle.std.proofs.Common.{refl, slice_get, sym, ap, ◌∙◌, inl, inr, Result, Ok, Err, rules}
use Rattle.std.specs.Prelude.{IsOkUnless}
use Rattle.at_base.specs.declared.error.Error.{Error}
use Rattle.at_base.specs.declared.error.Error.TheVariants.{Memory}
use Rattle.std.proofs.lemmas.Bool.{ltb-true}
use Rattle.std.proofs.lemmas.Option.{slice_get_read}
use Rattle.std.proofs.lemmas.Result.{IfErr-weaker, on_ok_weaker}
use Rattle.live_cables.specs.Living.{Wires}
use Rattle.world.proofs.Going.{did_play, goes_none, goes_nowhere}
use Rattle.world.specs.Going.{Did, GoesOn}
use Rattle.world.proofs.Doing.{done_for, done_noted, done_ok, stops_for}
use Rattle.world.proofs.Stopped.{memory_error}
use Rattle.world.proofs.acting.act_one.Goals as goal

-- A call that leaves the cables alone is refused only for memory.
still : {A : Type 0} (w : Wires) (r : Result A Error) → IsOkUnless r Memory → Did (GoesOn 0 w w) 5 w w r
still w (Ok u) memory = record { goes = goes_nowhere w; done = goes_none w; full = λ e. cc; refused = tt }
still w (Err e) memory = record { goes = goes_nowhere w; done = tt; full = λ f. cc (f, memory); refused = inr memory }

pub returns-in_err-outputs-clause-did : goal.returns-in_err-outputs-clause-did
returns-in_err-outputs-clause-did g c = still _ c.from_residual.result (search rules)

pub returns-in_default-clause-did : goal.returns-in_default-clause-did
returns-in_default-clause-did g c = still _ _ tt

pub returns-in_default-get-clause-did : goal.returns-in_default-get-clause-did
returns-in_default-get-clause-did g c = still _ _ tt

pub returns-in-Err-clause-did : goal.returns-in-Err-clause-did
returns-in-Err-clause-did g c = still _ c.note.result c.note.ensures.refused

pub returns-clause-did : goal.returns-clause-did
returns-clause-did g c =
    did_play 5 _ _ c.give.result c.give.ensures.plays c.give.ensures.done c.give.ensures.full c.give.ensures.refused

pub returns-in-Err-clause-is_done : goal.returns-in-Err-clause-is_done
returns-in-Err-clause-is_done g c =
    on_ok_weaker c.note.result
    (λ did. done_for c.args.plan.now c.args.stations.now c.args.index c.station_of-station.result c.in-Some.action.now
    c.in-Some-get.member.now _ _
    (ap (λ l. slice_get l c.args.index) (sym c.actions.ensures.value) ∙ slice_get_read c.actions.result.now _ c.args.index _ refl
    (ltb-true _ _ (sym c.in-Some.ensures.lookup.0)) c.in-Some.ensures.lookup.1)
    c.station_of-station.ensures (slice_get_read c.args.stations.now _ c.station_of-station.result _ refl
    (ltb-true _ _ (sym c.in-Some-get.ensures.lookup.0)) c.in-Some-get.ensures.lookup.1) did)
    (done_noted c.note.result c.in-Some-get.member.now c.station_of-station.result c.args.index
    c.in-Some.action.now.action c.in-Err.error _ _
    c.in-Err.ensures.refused c.note.ensures.memory (refl {a = c.args.wires.now}) c.note.ensures.noted)

pub returns-clause-is_done : goal.returns-clause-is_done
returns-clause-is_done g c =
    on_ok_weaker c.give.result
    (λ given. done_for c.args.plan.now c.args.stations.now c.args.index c.station_of-station.result c.in-Some.action.now
    c.in-Some-get.member.now _ _
    (ap (λ l. slice_get l c.args.index) (sym c.actions.ensures.value) ∙ slice_get_read c.actions.result.now _ c.args.index _ refl
    (ltb-true _ _ (sym c.in-Some.ensures.lookup.0)) c.in-Some.ensures.lookup.1)
    c.station_of-station.ensures (slice_get_read c.args.stations.now _ c.station_of-station.result _ refl
    (ltb-true _ _ (sym c.in-Some-get.ensures.lookup.0)) c.in-Some-get.ensures.lookup.1)
    (done_ok c.in-Some-get.member.now c.station_of-station.result c.args.index c.in-Some.action.now.action c.act_by.new.outputs.items _ _
    c.in-Ok.ensures.acted given refl))
    c.give.ensures.given

-- ---- What an action leaves that was stopped

pub returns-in_err-outputs-clause-stopped : goal.returns-in_err-outputs-clause-stopped
returns-in_err-outputs-clause-stopped g c =
    memory_error c.from_residual.result _ (search rules)
    (λ e is. stops_for c.args.plan.now c.args.stations.now c.args.index c.station_of-station.result c.in-Some.action.now
    c.in-Some-get.member.now e c.args.wires.now c.args.wires.now
    (ap (λ l. slice_get l c.args.index) (sym c.actions.ensures.value) ∙ slice_get_read c.actions.result.now _ c.args.index _ refl
    (ltb-true _ _ (sym c.in-Some.ensures.lookup.0)) c.in-Some.ensures.lookup.1)
    c.station_of-station.ensures (slice_get_read c.args.stations.now _ c.station_of-station.result _ refl
    (ltb-true _ _ (sym c.in-Some-get.ensures.lookup.0)) c.in-Some-get.ensures.lookup.1) (inl (is, refl)))

pub returns-in-Err-clause-stopped : goal.returns-in-Err-clause-stopped
returns-in-Err-clause-stopped g c =
    memory_error c.note.result _ c.note.ensures.refused
    (λ e is. stops_for c.args.plan.now c.args.stations.now c.args.index c.station_of-station.result c.in-Some.action.now
    c.in-Some-get.member.now e c.args.wires.now c.args.wires.now
    (ap (λ l. slice_get l c.args.index) (sym c.actions.ensures.value) ∙ slice_get_read c.actions.result.now _ c.args.index _ refl
    (ltb-true _ _ (sym c.in-Some.ensures.lookup.0)) c.in-Some.ensures.lookup.1)
    c.station_of-station.ensures (slice_get_read c.args.stations.now _ c.station_of-station.result _ refl
    (ltb-true _ _ (sym c.in-Some-get.ensures.lookup.0)) c.in-Some-get.ensures.lookup.1) (inl (is, refl)))

pub returns-clause-stopped : goal.returns-clause-stopped
returns-clause-stopped g c =
    IfErr-weaker c.give.result _ _
    (λ e part. stops_for c.args.plan.now c.args.stations.now c.args.index c.station_of-station.result c.in-Some.action.now
    c.in-Some-get.member.now e c.args.wires.now c.give.new.self
    (ap (λ l. slice_get l c.args.index) (sym c.actions.ensures.value) ∙ slice_get_read c.actions.result.now _ c.args.index _ refl
    (ltb-true _ _ (sym c.in-Some.ensures.lookup.0)) c.in-Some.ensures.lookup.1)
    c.station_of-station.ensures (slice_get_read c.args.stations.now _ c.station_of-station.result _ refl
    (ltb-true _ _ (sym c.in-Some-get.ensures.lookup.0)) c.in-Some-get.ensures.lookup.1)
    (inr (c.act_by.new.outputs.items, c.give.new.outputs.items, c.in-Ok.ensures.acted, part)))
    c.give.ensures.part
