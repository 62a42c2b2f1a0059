use Rattle.std.proofs.Common.{◌+◌, length, take, ap, sym, subst, refl}
use Rattle.std.proofs.lemmas.Option.{slice_get_read}
use Rattle.cable_model.proofs.Counting.{each_at}
use Rattle.frozen.proofs.Promised.{all_asked_for, all_carried, all_heard, each_once, has_hops, internet_stays}
use Rattle.frozen.proofs.Refused.{take_one}
use Rattle.frozen.specs.Events.{Another, Happened, Nothing, Stopped}
use Rattle.frozen.specs.Promises.{LooksUp, OnlyAsks}
use Rattle.frozen.specs.Runs.{IsFrozen}
use Rattle.table_image.specs.Internet.{Internet}
use Rattle.frozen.proofs.frozen.Frozen.run.Goals as goal

pub loop-event-init : goal.loop-event-init
loop-event-init g c =
    let frozen = subst IsFrozen c.self.view_is c.self.invariant.0 in (
      refl,
      Nothing c.args.self.now,
      each_once c.args.self.now frozen,
      has_hops c.args.self.now frozen,
      all_carried c.args.self.now frozen,
      all_asked_for c.args.self.now frozen,
      all_heard c.args.self.now frozen,
      λ up only. up,
    )

pub returns-in-Err-clause-stopped : goal.returns-in-Err-clause-stopped
returns-in-Err-clause-stopped g c =
    let es = c.args.events.now in
    let e = c.event-item.result in
    subst (λ k. Stopped c.args.self.now es k c.in-Err.error c.event.new.self) (sym c.loop-event.invariant.0)
    (subst (Stopped c.args.self.now es c.loop-event.event-index c.in-Err.error) (sym c.in-Err.ensures.kept) (record {
      event = e;
      at = slice_get_read es (length es) c.loop-event.event-index e refl c.loop-event-test.true c.event-item.is;
      before = c.loop-event.invariant.1;
      refused = c.in-Err.ensures.refused;
    }))

pub loop-event-preserved : goal.loop-event-preserved
loop-event-preserved g c =
    let es = c.args.events.now in
    let k = c.loop-event.event-index in
    let e = c.event-item.result in
    let at = slice_get_read es (length es) k e refl c.loop-event-test.true c.event-item.is in (
      ap (λ n. n + 1) c.loop-event.invariant.0,
      subst (λ l. Happened c.args.self.now l c.event.new.self) (sym (take_one es k e at))
          (Another c.args.self.now c.loop-event.self c.event.new.self (take k es) e c.loop-event.invariant.1 c.in-Ok.ensures.ok
          c.in-Ok.ensures.happens),
      c.event.ensures.conserved,
      c.event.ensures.hops,
      c.event.ensures.carried,
      c.event.ensures.asked_for,
      c.event.ensures.heard,
      λ up only.
          let here : OnlyAsks c.args.self.now.internet e = each_at (OnlyAsks c.args.self.now.internet) es k e at only in
          c.event.ensures.looked_up (c.loop-event.invariant.7 up only)
          (subst (λ (i : Internet). OnlyAsks i e)
          (sym (internet_stays c.args.self.now c.loop-event.self (take k es) c.loop-event.invariant.1)) here),
    )

pub returns-in-Err-clause-looked_up : goal.returns-in-Err-clause-looked_up
returns-in-Err-clause-looked_up g c = λ up only. subst LooksUp (sym c.in-Err.ensures.kept) (c.loop-event.invariant.7 up only)
