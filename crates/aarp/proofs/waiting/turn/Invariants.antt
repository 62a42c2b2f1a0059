use Rattle.std.proofs.Common.{◌≡◌, ◌++◌, ◌≤◌, length, take, drop}
use Rattle.aarp.proofs.waiting.turn.Given as goal

abbrev pub invariant-loop-step : goal.invariant-loop-step
invariant-loop-step l = record {
  turned : l.queue.items ≡ drop l._step l.initial.queue.items ++ take l._step l.initial.queue.items;
  capacity : l.queue.capacity ≡ l.initial.queue.capacity;
  fits : length l.initial.queue.items ≤ l.queue.capacity;
  within : l.count ≤ length l.initial.queue.items;
}
