use Rattle.std.proofs.Common.{◌≡◌, ◌≤◌, ◌++◌, length, take, drop}
use Rattle.aarp.specs.Mapping.{waited, to_ask, given_up, shed}
use Rattle.arrayvec.specs.ArrayVec.{array_vec_len}
use Rattle.aarp.proofs.waiting.wait.Given as goal

abbrev pub invariant-loop-step : goal.invariant-loop-step
invariant-loop-step l = record {
  items : l.queue.items ≡ drop l._step l.fn.queue.items ++ waited (take l._step l.fn.queue.items);
  capacity : l.queue.capacity ≡ l.fn.queue.capacity;
  end : l._step-end ≡ length l.fn.queue.items;
  few : length l.fn.queue.items ≤ 16;
  cap : l.fn.queue.capacity ≡ 16;
  ask : l.asks.ask ≡ to_ask (take l._step l.fn.queue.items);
  given_up : l.asks.given_up ≡ given_up (take l._step l.fn.queue.items);
  ask_few : length l.asks.ask ≤ l._step;
  given_up_few : length l.asks.given_up ≤ l._step;
  shed : l.asks.shed.items ≡ shed (take l._step l.fn.queue.items);
  shed_few : array_vec_len l.asks.shed ≤ l._step;
}
