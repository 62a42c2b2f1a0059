-- The cables that lose frames in a tick.
use Rattle.std.specs.Prelude.{ℕ, ◌+◌, ◌-◌, Bool, true, ◌&&◌, ◌==◌, List, cond, nat_le, slice_set}
use Rattle.std.specs.List.{list_any}
use Rattle.at_base.specs.Range.{is_between}
use Rattle.internet_file.specs.Files.{Planned}
use Rattle.internet_file.specs.declared.loss.Loss.{Loss}

-- The loss includes a tick.
abbrev pub is_on : ℕ → Loss → Bool
is_on tick l = nat_le l.first tick && nat_le tick l.last

-- A cable, counted from 0, loses frames in a tick.
abbrev pub loses_at : Planned → ℕ → ℕ → Bool
loses_at p tick cable = list_any (λ l. (l.cable == cable + 1) && is_on tick l) p.losses

-- ---- How the cables are found

-- The cable of the loss is one of `cables` cables.
abbrev pub is_lossy : ℕ → Loss → Bool
is_lossy cables l = is_between 1 cables l.cable

-- One of the losses is of this cable, counted from 0, and includes a tick.
abbrev pub loses_in : ℕ → List Loss → ℕ → Bool
loses_in tick losses cable = list_any (λ l. (l.cable == cable + 1) && is_on tick l) losses

-- Which cables lose frames, after the cable of a loss that includes the tick was marked.
abbrev pub marked : ℕ → Loss → List Bool → List Bool
marked tick l losing = cond (is_on tick l) (slice_set losing (l.cable - 1) true) losing
