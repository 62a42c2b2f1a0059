use Rattle.std.proofs.Common.{◌≡◌, ◌∙◌, ◌+◌, suc, Some, ap, arith, length, refl, slice_get, slice_set, subst, sym}
use Rattle.std.proofs.lemmas.Option.{slice_get_read}
use Rattle.world.proofs.Going.{goes_none, goes_on_then, goes_then}
use Rattle.world.proofs.Received.{got_stays}
use Rattle.world.proofs.Stations.{get_set, length_set, ports_set}
use Rattle.world.specs.Passing.{HavePassed}
use Rattle.world.proofs.station_ticks.tick_all.Goals as goal

pub loop-index-init : goal.loop-index-init
loop-index-init g c = (refl, refl, refl, goes_none _, omega arith, (refl, refl, refl))

pub returns-in-Err-clause-ports : goal.returns-in-Err-clause-ports
returns-in-Err-clause-ports g c =
    let ms = c.loop-index.stations.items in
    let k = c.loop-index.index in
    let old = c.index_mut-station.result.now in
    let test = c.loop-index-test.true in
    let len = c.len-index-end.ensures in
    let same = c.loop-index.invariant.2 in
    let at = slice_get_read ms (length ms) k old refl (omega (arith, test, len, same)) c.index_mut-station.ensures.value in
    ports_set ms k old c.tick_station.new.station at c.tick_station.ensures.ports ∙ c.loop-index.invariant.0

pub returns-in-Err-clause-got : goal.returns-in-Err-clause-got
returns-in-Err-clause-got g c =
    let ms = c.loop-index.stations.items in
    let k = c.loop-index.index in
    let old = c.index_mut-station.result.now in
    let test = c.loop-index-test.true in
    let len = c.len-index-end.ensures in
    let same = c.loop-index.invariant.2 in
    let at = slice_get_read ms (length ms) k old refl (omega (arith, test, len, same)) c.index_mut-station.ensures.value in
    got_stays ms k old c.tick_station.new.station at c.tick_station.ensures.got ∙ c.loop-index.invariant.1

pub returns-in-Err-clause-did : goal.returns-in-Err-clause-did
returns-in-Err-clause-did g c = record {
  goes = goes_then 0 _ _ _ c.loop-index.invariant.3 c.tick_station.ensures.did.goes;
  done = tt;
  full = c.in-Err.ensures.did.full;
  refused = c.in-Err.ensures.did.refused;
}

pub returns-clause-did : goal.returns-clause-did
returns-clause-did g c = record {
  goes = c.loop-index.invariant.3.goes;
  done = c.loop-index.invariant.3;
  full = λ e. cc;
  refused = tt;
}

pub loop-index-preserved : goal.loop-index-preserved
loop-index-preserved g c =
    let ms = c.loop-index.stations.items in
    let k = c.loop-index.index in
    let old = c.index_mut-station.result.now in
    let test = c.loop-index-test.true in
    let len = c.len-index-end.ensures in
    let same = c.loop-index.invariant.2 in
    let at = slice_get_read ms (length ms) k old refl (omega (arith, test, len, same)) c.index_mut-station.ensures.value in
    let few = c.loop-index.invariant.4 in
    let more = c.ports_at-seat.ensures.few in
    let next : suc k ≡ k + 1 = omega arith in
    let after = c.ports_at-seat.ensures.value c.tick_station.new.station (subst (λ l. slice_get l k ≡ Some c.tick_station.new.station)
    (sym c.deref.ensures.value) (get_set ms k old c.tick_station.new.station at)) in (
      ports_set ms k old c.tick_station.new.station at c.tick_station.ensures.ports ∙ c.loop-index.invariant.0,
      got_stays ms k old c.tick_station.new.station at c.tick_station.ensures.got ∙ c.loop-index.invariant.1,
      length_set ms k c.tick_station.new.station ∙ same,
      goes_on_then 0 _ _ _ c.loop-index.invariant.3 0 0 (omega arith) c.in-Ok.ensures.did.done,
      omega (arith, few, more),
      subst (λ n. HavePassed n (c.loop-index.seat + c.ports_at-seat.result) c.args.stations.now.items
          (slice_set ms k c.tick_station.new.station) c.args.wires.now c.tick_station.new.wires) next (
            c.loop-index.seat,
            ms,
            c.loop-index.wires,
            c.loop-index.invariant.5,
            old,
            c.tick_station.new.station,
            at,
            c.in-Ok.ensures.passed,
            refl,
            ap (λ n. c.loop-index.seat + n) after,
          ),
    )
