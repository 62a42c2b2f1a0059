use Rattle.std.proofs.Common.{arith, inl, inr, map, subst, sym}
use Rattle.std.proofs.lemmas.Result.{IfErr-weaker, on_ok_weaker}
use Rattle.planned_stations.specs.Planning.{AreSeated, ports_of}
use Rattle.world.proofs.Going.{did_end}
use Rattle.world.proofs.Received.{received_goes}
use Rattle.world.proofs.phases.run_phases.Goals as goal

pub take_all-requires : goal.take_all-requires
take_all-requires g c =
    subst (λ s. AreSeated s (map ports_of c.before_takings.new.stations.items)) (sym c.before_takings.ensures.did.goes.seats)
    (subst (AreSeated c.args.wires.now.cabling.seats) (sym c.before_takings.ensures.ports) c.requires.seated)

pub returns-in-Err-clause-received : goal.returns-in-Err-clause-received
returns-in-Err-clause-received g c = received_goes _ _ _ _ c.before_takings.ensures.did.goes c.before_takings.ensures.got

pub returns-in-Err-clause-did : goal.returns-in-Err-clause-did
returns-in-Err-clause-did g c = record {
  goes = c.before_takings.ensures.did.goes;
  done = tt;
  full = λ e. let five = c.in-Err.ensures.did.full e in omega (arith, five);
  refused = c.in-Err.ensures.did.refused;
}

pub returns-clause-did : goal.returns-clause-did
returns-clause-did g c = did_end 10000 1285 _ _ _ c.take_all.result c.in-Ok.ensures.did.done c.take_all.ensures.did

pub returns-clause-received : goal.returns-clause-received
returns-clause-received g c =
    λ h. c.take_all.ensures.received (received_goes _ _ _ _ c.before_takings.ensures.did.goes c.before_takings.ensures.got h)

pub returns-clause-plays : goal.returns-clause-plays
returns-clause-plays g c =
    on_ok_weaker c.take_all.result
    (λ t. record {
      passed = c.before_takings.new.stations.items;
      acted = c.before_takings.new.wires;
      begins = c.in-Ok.ensures.begins;
      takings = t.0;
      takes = t.1;
    }) c.take_all.ensures.taken

pub returns-in-Err-clause-stopped : goal.returns-in-Err-clause-stopped
returns-in-Err-clause-stopped g c = inl c.in-Err.ensures.stopped

pub returns-clause-stopped : goal.returns-clause-stopped
returns-clause-stopped g c =
    IfErr-weaker c.take_all.result _ _
    (λ e taking. inr (record {
      passed = c.before_takings.new.stations.items;
      acted = c.before_takings.new.wires;
      begins = c.in-Ok.ensures.begins;
      taking = taking;
    })) c.take_all.ensures.stopped
