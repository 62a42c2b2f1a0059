use Rattle.std.proofs.Common.{◌≡◌, [], None, Result, Ok, Err, IfOk, refl, subst, sym}
use Rattle.at_base.specs.declared.error.Error.{Error}
use Rattle.internet_file.specs.Files.{Planned}
use Rattle.live_cables.specs.Living.{happened}
use Rattle.planned_stations.specs.Beginning.{AreBegun}
use Rattle.playing.specs.Lives.{HasLived}
use Rattle.playing.specs.Lives.Lives.{Begun}
use Rattle.world.specs.Scheduling.{IsSchedule}
use Rattle.world.specs.Worlds.{Worldly, wires_begun}
use Rattle.playing.proofs.ticking.begin.Goals as goal

begun : (plan : Planned) (r : Result Worldly Error)
    → IfOk r (λ w. (w.plan ≡ plan) × (w.now ≡ 0) × (w.stopped ≡ None) × (w.refused ≡ []) × (happened w.wires ≡ []))
    → IfOk r (λ w. w.wires ≡ wires_begun plan) → IfOk r (λ w. AreBegun plan w.stations)
    → IfOk r (λ w. IsSchedule plan.actions w.schedule) → IfOk r (λ w. HasLived w [])
begun plan (Ok w) ok wires stations schedule = (
  Begun w (subst (λ (p : Planned). AreBegun p w.stations) (sym ok.0) stations)
      (subst (λ (p : Planned). IsSchedule p.actions w.schedule) (sym ok.0) schedule) ok.1 ok.3
      (subst (λ (p : Planned). w.wires ≡ wires_begun p) (sym ok.0) wires),
  refl,
)
begun plan (Err e) ok wires stations schedule = tt

-- A world before its first tick satisfies `Lives`.
pub returns-clause-lived : goal.returns-clause-lived
returns-clause-lived c = begun c.args.plan c.new.result c.new.ensures.ok c.new.ensures.wires c.new.ensures.begun c.new.ensures.scheduled
