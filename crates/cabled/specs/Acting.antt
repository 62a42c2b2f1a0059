-- What a station does that has ports on cables which it doesn't own: a router on real cables is one.
use Rattle.std.specs.Prelude.{ℕ, Bool, List}
use Rattle.cabled.specs.Putting.{Put}
use Rattle.ethertalk.specs.Frames.{Framed}
use Rattle.port.specs.Ports.{Ported}

-- What such a station hears of: a tick, or a frame on the cable of a port.
pub data Event : Type 0 where
  Tick : Event
  Heard : ℕ → Framed → Event

-- What a station puts for an event, and its state after it; its ports, in order; and whether it is done, so that nothing
-- has to come any more.
pub record Acting (S : Type 0) : Type 0 where
  pub step : S → Event → List Put × S
  pub ports : S → List Ported
  pub is_done : S → Bool
