-- The order of the actions.
use Rattle.std.specs.Prelude.{ℕ, ◌+◌, ◌*◌, List, IsPermutation, length, reverse}
use Rattle.std.specs.List.{range_with_len}
use Rattle.std.specs.List.Sorted.{IsNonDecreasingBy}
use Rattle.std.specs.Option.{unwrap_or}
use Rattle.internet_file.specs.declared.action.Action.{Action}
use Rattle.world.specs.Acting.{tick_of}

-- The tick of the action at an index, and 0 past the last action.
abbrev pub tick_or_0 : List Action → ℕ → ℕ
tick_or_0 actions index = unwrap_or (tick_of actions index) 0

-- The sort key of the action at an index: an earlier tick comes first, and within a tick the lower index.
abbrev pub turn_of : List Action → ℕ → ℕ
turn_of actions index = tick_or_0 actions index * 4294967296 + index

-- The schedule has the index of each action once, the one with the greatest sort key first.
pub record IsSchedule (actions : List Action) (schedule : List ℕ) : Type 0 where
  pub all : IsPermutation (range_with_len 0 (length actions)) (reverse schedule)
  pub rises : IsNonDecreasingBy (turn_of actions) (reverse schedule)
