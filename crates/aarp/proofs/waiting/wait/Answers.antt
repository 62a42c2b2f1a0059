use Rattle.std.proofs.Common.{◌<◌, length, ◌∙◌, arith, sym}
use Rattle.aarp.proofs.Ticks.{next, has_next}
use Rattle.aarp.proofs.waiting.wait.Goals.{in-Some, in_default}
use Rattle.aarp.proofs.waiting.wait.Goals as goal

pub wait_on-requires-clause-room : goal.wait_on-requires-clause-room
wait_on-requires-clause-room c =
    let was = c.loop-step.invariant in
    let n = next c.args.queue.now.items c.loop-step._step c.in-Some.held (omega arith) (rw was.items at (sym
    c.pop_front.ensures.value ∙ c.in-Some.is)) in
    rw (c.pop_front.ensures.items, was.items, was.capacity) (omega (arith, n.room, was.few, was.cap))

pub loop-step-preserved : goal.loop-step-preserved
loop-step-preserved c =
    let was = c.loop-step.invariant in
    let lt : c.loop-step._step < length c.args.queue.now.items = omega arith in
    elim c.match-pop_front.branch [
      | in-Some w ↦
          let n = next c.args.queue.now.items c.loop-step._step w.in-Some.held lt (rw was.items at (sym c.pop_front.ensures.value
          ∙ w.in-Some.is)) in
          record {
            items = rw (w.queue-is, w.wait_on.ensures.items, c.pop_front.ensures.items, was.items) n.items;
            capacity = rw (w.queue-is, w.wait_on.ensures.capacity, c.pop_front.ensures.items) was.capacity;
            end = was.end;
            few = was.few;
            cap = was.cap;
            ask = rw (w.asks-is, w.wait_on.ensures.ask, was.ask) (sym n.ask);
            given_up = rw (w.asks-is, w.wait_on.ensures.given_up, was.given_up) (sym n.given_up);
            ask_few = rw w.asks-is (omega (arith, w.wait_on.ensures.ask_few, was.ask_few));
            given_up_few = rw w.asks-is (omega (arith, w.wait_on.ensures.given_up_few, was.given_up_few));
            shed = rw (w.asks-is, w.wait_on.ensures.shed, was.shed) (sym n.shed);
            shed_few = rw w.asks-is (omega (arith, w.wait_on.ensures.shed_few, was.shed_few));
          }
      | in_default w ↦ absurd (has_next c.args.queue.now.items c.loop-step._step lt (rw was.items at (sym c.pop_front.ensures.value
          ∙ w.in_default.is)))
    ]
