use Rattle.std.proofs.Common.{◌≡◌, ◌∙◌, ◌+◌, suc, arith, refl, subst, sym}
use Rattle.world.proofs.Going.{goes_none, goes_on_then, goes_then}
use Rattle.world.specs.Passing.{AreAged}
use Rattle.world.proofs.station_ticks.age_all_mappings.Goals as goal

pub loop-port-init : goal.loop-port-init
loop-port-init g c = (refl, refl, goes_none _, (refl, refl))

pub loop-port-preserved : goal.loop-port-preserved
loop-port-preserved g c = let next : suc c.loop-port.port ≡ c.loop-port.port + 1 = omega arith in (
  c.age_mappings.ensures.ports ∙ c.loop-port.invariant.0,
  c.age_mappings.ensures.got ∙ c.loop-port.invariant.1,
  goes_on_then 0 _ _ _ c.loop-port.invariant.2 0 0 (omega arith) c.in-Ok.ensures.did.done,
  subst (λ n. AreAged c.args.seat n c.args.station.now c.age_mappings.new.station c.args.wires.now c.age_mappings.new.wires) next
      (c.loop-port.station, c.loop-port.wires, c.loop-port.invariant.3, c.in-Ok.ensures.aged),
)

pub returns-in-Err-clause-ports : goal.returns-in-Err-clause-ports
returns-in-Err-clause-ports g c = c.age_mappings.ensures.ports ∙ c.loop-port.invariant.0

pub returns-in-Err-clause-got : goal.returns-in-Err-clause-got
returns-in-Err-clause-got g c = c.age_mappings.ensures.got ∙ c.loop-port.invariant.1

pub returns-in-Err-clause-did : goal.returns-in-Err-clause-did
returns-in-Err-clause-did g c = record {
  goes = goes_then 0 _ _ _ c.loop-port.invariant.2 c.age_mappings.ensures.did.goes;
  done = tt;
  full = c.in-Err.ensures.did.full;
  refused = c.in-Err.ensures.did.refused;
}

pub returns-clause-did : goal.returns-clause-did
returns-clause-did g c = record {
  goes = c.loop-port.invariant.2.goes;
  done = c.loop-port.invariant.2;
  full = λ e. cc;
  refused = tt;
}

pub returns-in-Err-clause-stopped : goal.returns-in-Err-clause-stopped
returns-in-Err-clause-stopped g c = record {
  aged = c.loop-port.port;
  some = c.loop-port-test.true;
  last = c.loop-port.wires;
  ages = subst (λ m. AreAged c.args.seat c.loop-port.port c.args.station.now m c.args.wires.now c.loop-port.wires)
      (sym c.in-Err.ensures.stopped) c.loop-port.invariant.3;
  passes = c.in-Err.ensures.part;
  full = c.in-Err.ensures.full;
}
