use Rattle.std.proofs.Common.{◌∙◌, ap, map, refl, subst, sym}
use Rattle.std.specs.Prelude.{IfErr, OnOk}
use Rattle.std.proofs.Common.{inr}
use Rattle.std.proofs.lemmas.Result.{IfErr-weaker, on_ok_weaker}
use Rattle.live_cables.specs.Living.{Wires, happened}
use Rattle.planned_stations.specs.Planning.{AreSeated, ports_of}
use Rattle.world.proofs.Stations.{laid_after, laid_seated}
use Rattle.world.proofs.Ticked.{due_ticks, ticks_ends, ticks_goes}
use Rattle.world.specs.Acting.{KeepsFirst}
use Rattle.world.specs.Stopping.{StopsIn, StopsTick}
use Rattle.world.specs.Received.{AreReceived, got}
use Rattle.world.specs.Ticking.{IsTick, Plays}
use Rattle.world.specs.Worlds.{Ticks, TicksOn, Worldly}
use Rattle.world.proofs.world.World.run_tick.Goals as goal

pub run_phases-played-requires-clause-seated : goal.run_phases-played-requires-clause-seated
run_phases-played-requires-clause-seated g c =
    subst (λ (w : Wires). AreSeated w.cabling.seats (map ports_of c.self.inside.stations.items)) (sym c.set_losing.ensures)
    (laid_seated _ c.self.invariant)

pub invariant_of-self : goal.invariant_of-self
invariant_of-self g c =
    let old = c.self.inside in
    let new = c.run_phases-played.new.wires in
    laid_after _ _ c.self.invariant refl c.run_phases-played.ensures.ports
    (c.run_phases-played.ensures.did.goes.seats ∙ ap (λ (w : Wires). w.cabling.seats) c.set_losing.ensures)
    (c.run_phases-played.ensures.did.goes.limit ∙ ap (λ (w : Wires). w.cabling.limit) c.set_losing.ensures) c.self.invariant.few
    (due_ticks old.plan old.passed old.wires new
    (ticks_goes old.plan old.passed old.wires new c.in-Ok.losing.items c.in-Ok.ensures.losing c.self.invariant.seats
    c.recall_once.ensures c.set_losing.new.self c.set_losing.ensures c.run_phases-played.ensures.did.goes)
    c.self.invariant.due)
    (c.run_phases-played.ensures.received
    (subst (λ (w : Wires). AreReceived (happened w) (map got old.stations.items)) (sym c.set_losing.ensures) c.self.invariant.received))

pub returns-clause-ticks : goal.returns-clause-ticks
returns-clause-ticks g c =
    let old = c.self.inside in
    let new = c.run_phases-played.new.wires in
    subst (λ (w : Worldly). Ticks w.plan w.now w.wires new) c.self.view_is
    (ticks_goes old.plan old.passed old.wires new c.in-Ok.losing.items c.in-Ok.ensures.losing c.self.invariant.seats
    c.recall_once.ensures c.set_losing.new.self c.set_losing.ensures c.run_phases-played.ensures.did.goes)

pub returns-clause-ticks_on : goal.returns-clause-ticks_on
returns-clause-ticks_on g c =
    let old = c.self.inside in
    let new = c.run_phases-played.new.wires in
    subst (λ (w : Worldly). OnOk c.run_phases-played.result (TicksOn w.plan w.now w.wires new)) c.self.view_is
    (on_ok_weaker c.run_phases-played.result
    (λ d. ticks_ends old.plan old.passed old.wires new c.in-Ok.losing.items c.in-Ok.ensures.losing c.self.invariant.seats
    c.recall_once.ensures c.set_losing.new.self c.set_losing.ensures d) c.run_phases-played.ensures.did.done)

pub returns-clause-plays : goal.returns-clause-plays
returns-clause-plays g c =
    let old = c.self.inside in
    let new : Worldly = record {
      plan = old.plan;
      stations = c.run_phases-played.new.stations.items;
      wires = c.run_phases-played.new.wires;
      now = old.passed;
      stopped = old.stopped;
      refused = c.run_phases-played.new.refused.items;
      schedule = c.run_phases-played.new.schedule.items;
    } in
    subst (λ (w : Worldly). OnOk c.run_phases-played.result (IsTick w new)) c.self.view_is
    (on_ok_weaker c.run_phases-played.result
    (λ p. record {
      losing = c.in-Ok.losing.items;
      loses = c.in-Ok.ensures.losing;
      plays =
          subst (λ (w : Wires). Plays old.plan old.passed old.stations.items new.stations w new.wires old.refused.items new.refused
          old.schedule.items new.schedule) c.set_losing.ensures p;
    }) c.run_phases-played.ensures.plays)

pub returns-clause-keeps : goal.returns-clause-keeps
returns-clause-keeps g c =
    subst (λ (w : Worldly). KeepsFirst w.refused c.run_phases-played.new.refused.items) c.self.view_is c.run_phases-played.ensures.keeps

pub returns-clause-steps_stay : goal.returns-clause-steps_stay
returns-clause-steps_stay g c =
    let old = c.self.inside in
    let new : Worldly = record {
      plan = old.plan;
      stations = c.run_phases-played.new.stations.items;
      wires = c.run_phases-played.new.wires;
      now = old.passed;
      stopped = old.stopped;
      refused = c.run_phases-played.new.refused.items;
      schedule = c.run_phases-played.new.schedule.items;
    } in
    subst (λ (w : Worldly). IfErr c.run_phases-played.result (λ e. StopsTick e w new)) c.self.view_is
    (IfErr-weaker c.run_phases-played.result _ _
    (λ e stops. inr (record {
      losing = c.in-Ok.losing.items;
      loses = c.in-Ok.ensures.losing;
      stops =
          subst (λ (w : Wires). StopsIn e old.plan old.passed old.stations.items new.stations w new.wires old.refused.items new.refused
          old.schedule.items new.schedule) c.set_losing.ensures stops;
    })) c.run_phases-played.ensures.stopped)
