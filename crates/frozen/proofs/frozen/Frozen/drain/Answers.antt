use Rattle.std.proofs.Common.{◌<◌, length, sym, subst}
use Rattle.frozen.proofs.Promised.{all_asked_for, all_carried, all_heard, each_once, has_hops, looks_up}
use Rattle.frozen.proofs.Seats.{next_within}
use Rattle.frozen.specs.Events.{DrainStops, IsNext, Taken, Undrained}
use Rattle.frozen.specs.Runs.{IsFrozen, Running}
use Rattle.frozen.proofs.frozen.Frozen.drain.Goals as goal

pub loop-turn-init : goal.loop-turn-init
loop-turn-init g c =
    let frozen = subst IsFrozen c.self.view_is c.self.invariant.0 in (
      Undrained c.args.self.now,
      each_once c.args.self.now frozen,
      has_hops c.args.self.now frozen,
      all_carried c.args.self.now frozen,
      all_asked_for c.args.self.now frozen,
      all_heard c.args.self.now frozen,
      λ up. up,
    )

pub take-requires : goal.take-requires
take-requires g c =
    record {
      there =
          subst (λ (r : Running). c.in-Some.station < length r.stations) c.self-in-loop-turn.view_is
          (next_within _ c.self-in-loop-turn.invariant.0 c.in-Some.stamp c.in-Some.station c.in-Some.ensures.some);
    }

pub returns-in-Err-clause-stopped : goal.returns-in-Err-clause-stopped
returns-in-Err-clause-stopped g c =
    subst (DrainStops c.args.self.now c.args.most c.in-Err.error) (sym c.in-Err.ensures.kept) (record {
      number = c.loop-turn._turn;
      few = c.loop-turn-test.true;
      drained = c.loop-turn.invariant.0;
      stamp = c.in-Some.stamp;
      station = c.in-Some.station;
      next = subst (λ (r : Running). IsNext r c.in-Some.stamp c.in-Some.station) c.self-in-loop-turn.view_is c.in-Some.ensures.some;
      refused = c.in-Err.ensures.refused;
    })

pub loop-turn-preserved : goal.loop-turn-preserved
loop-turn-preserved g c =
    let new = c.take.new.self in
    let frozen = c.take.ensures.frozen in (
      Taken c.args.self.now c.loop-turn.self new c.loop-turn._turn c.in-Some.stamp c.in-Some.station c.loop-turn.invariant.0
          (subst (λ (r : Running). IsNext r c.in-Some.stamp c.in-Some.station) c.self-in-loop-turn.view_is c.in-Some.ensures.some)
          c.in-Ok.ensures.ok c.in-Ok.ensures.taken,
      each_once new frozen,
      has_hops new frozen,
      all_carried new frozen,
      all_asked_for new frozen,
      all_heard new frozen,
      λ up. looks_up new frozen (c.take.ensures.asks (c.loop-turn.invariant.6 up).0),
    )

pub returns-in-Err-clause-conserved : goal.returns-in-Err-clause-conserved
returns-in-Err-clause-conserved g c = each_once c.take.new.self c.take.ensures.frozen

pub returns-in-Err-clause-hops : goal.returns-in-Err-clause-hops
returns-in-Err-clause-hops g c = has_hops c.take.new.self c.take.ensures.frozen

pub returns-in-Err-clause-carried : goal.returns-in-Err-clause-carried
returns-in-Err-clause-carried g c = all_carried c.take.new.self c.take.ensures.frozen

pub returns-in-Err-clause-looked_up : goal.returns-in-Err-clause-looked_up
returns-in-Err-clause-looked_up g c = λ up.
    looks_up c.take.new.self c.take.ensures.frozen (c.take.ensures.asks (c.loop-turn.invariant.6 up).0)

pub returns-in-Err-clause-asked_for : goal.returns-in-Err-clause-asked_for
returns-in-Err-clause-asked_for g c = all_asked_for c.take.new.self c.take.ensures.frozen

pub returns-in-Err-clause-heard : goal.returns-in-Err-clause-heard
returns-in-Err-clause-heard g c = all_heard c.take.new.self c.take.ensures.frozen
