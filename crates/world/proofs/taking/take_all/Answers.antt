use Rattle.std.proofs.Common.{◌≡◌, ◌+◌, ◌∙◌, suc, arith, inl, map, refl, subst, sym, ap, Err}
use Rattle.at_base.specs.declared.error.Error.TheVariants.{Full}
use Rattle.cable_model.specs.Transcript.{one}
use Rattle.planned_stations.specs.Planning.{AreSeated, ports_of}
use Rattle.world.proofs.Going.{goes_none, goes_on_then, goes_then}
use Rattle.world.specs.Going.{GoesOn}
use Rattle.world.specs.Taking.{AreTaken}
use Rattle.world.proofs.taking.take_all.Goals as goal

pub loop-step-init : goal.loop-step-init
loop-step-init g c = (refl, goes_none _, (λ h. h), (refl, refl))

pub take_first-requires : goal.take_first-requires
take_first-requires g c =
    subst (λ s. AreSeated s (map ports_of c.loop-step.stations.items)) (sym c.loop-step.invariant.1.goes.seats)
    (subst (AreSeated c.args.wires.now.cabling.seats) (sym c.loop-step.invariant.0) c.requires)

pub loop-step-preserved : goal.loop-step-preserved
loop-step-preserved g c = let next : suc c.loop-step._step ≡ c.loop-step._step + 1 = omega arith in (
  c.take_first.ensures.ports ∙ c.loop-step.invariant.0,
  goes_on_then c.loop-step._step _ _ _ c.loop-step.invariant.1 1 (c.loop-step._step + 1) refl
      (subst (λ b. GoesOn (one b) c.loop-step.wires c.take_first.new.wires) c.in-Ok-true.field-0-test c.in-Ok-true.ensures.took),
  (λ h. c.take_first.ensures.received (c.loop-step.invariant.2 h)),
  subst (λ n. AreTaken n c.args.stations.now.items c.take_first.new.stations.items c.args.wires.now c.take_first.new.wires) next (
    c.loop-step.stations.items,
    c.loop-step.wires,
    c.loop-step.invariant.3,
    c.in-Ok-true.ensures.taken c.in-Ok-true.field-0-test,
  ),
)

pub returns-in-Ok-false-clause-taken : goal.returns-in-Ok-false-clause-taken
returns-in-Ok-false-clause-taken g c =
    let stay = c.in-Ok-false.ensures.stay c.in-Ok-false.field-0-test in (
      c.loop-step._step,
      subst (λ w. AreTaken c.loop-step._step c.args.stations.now.items c.take_first.new.stations.items c.args.wires.now w) (sym stay.1)
          (subst (λ l. AreTaken c.loop-step._step c.args.stations.now.items l c.args.wires.now c.loop-step.wires)
          (sym stay.0) c.loop-step.invariant.3),
    )

pub returns-clause-taken : goal.returns-clause-taken
returns-clause-taken g c = (c.loop-step._step, c.loop-step.invariant.3)

pub returns-in-Ok-false-clause-ports : goal.returns-in-Ok-false-clause-ports
returns-in-Ok-false-clause-ports g c = c.take_first.ensures.ports ∙ c.loop-step.invariant.0

pub returns-in-Ok-false-clause-did : goal.returns-in-Ok-false-clause-did
returns-in-Ok-false-clause-did g c = record {
  goes = goes_then c.loop-step._step _ _ _ c.loop-step.invariant.1 c.take_first.ensures.goes;
  done = record {
    taken = c.loop-step._step;
    goes_on =
        goes_on_then c.loop-step._step _ _ _ c.loop-step.invariant.1 0 c.loop-step._step (omega arith)
        (subst (λ b. GoesOn (one b) c.loop-step.wires c.take_first.new.wires) c.in-Ok-false.field-0-test c.in-Ok-false.ensures.took);
    few = omega (arith, c.loop-step);
    ended = inl (c.in-Ok-false.ensures.none c.in-Ok-false.field-0-test);
  };
  full = λ e. cc;
  refused = tt;
}

pub returns-in-Ok-false-clause-received : goal.returns-in-Ok-false-clause-received
returns-in-Ok-false-clause-received g c = λ h. c.take_first.ensures.received (c.loop-step.invariant.2 h)

pub returns-in-Err-clause-ports : goal.returns-in-Err-clause-ports
returns-in-Err-clause-ports g c = c.take_first.ensures.ports ∙ c.loop-step.invariant.0

pub returns-in-Err-clause-did : goal.returns-in-Err-clause-did
returns-in-Err-clause-did g c = record {
  goes = goes_then c.loop-step._step _ _ _ c.loop-step.invariant.1 c.take_first.ensures.goes;
  done = tt;
  full = λ e. let same : c.in-Err.error ≡ Full = cc in c.in-Err.ensures.full (ap Err same);
  refused = c.in-Err.ensures.refused;
}

pub returns-in-Err-clause-received : goal.returns-in-Err-clause-received
returns-in-Err-clause-received g c = λ h. c.take_first.ensures.received (c.loop-step.invariant.2 h)
