use Rattle.std.proofs.Common.{◌≡◌, ◌||◌, ℕ, length, take}
use Rattle.live_cables.specs.Steps.{loses_by}
use Rattle.world.specs.Losing.{loses_in}
use Rattle.world.proofs.losing.mark_all.Given as goal

-- The cables of the losses before this index are marked.
abbrev pub invariant-loop-index : goal.invariant-loop-index
invariant-loop-index l =
    (length l.losing.items ≡ length l.initial.losing.items)
    × ((cable : ℕ) → loses_by l.losing.items cable
    ≡ (loses_by l.initial.losing.items cable || loses_in l.now (take l.index l.losses) cable))
