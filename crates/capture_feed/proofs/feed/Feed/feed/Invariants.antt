use Rattle.std.proofs.Common.{◌≡◌, ◌+◌, ◌++◌, None, length}
use Rattle.capture_feed.proofs.Leading.{Underway}
use Rattle.capture_feed.proofs.feed.Feed.feed.Given as goal

abbrev pub invariant-loop-after : goal.invariant-loop-after
invariant-loop-after g l =
    (l.self.refused ≡ None)
    × Underway g.L.Listen.heard l.initial.self.at (l.initial.self.kept ++ l.initial.rest) l.initial.listener l.self.at (l.self.kept ++ l.rest) l.listener

abbrev pub decreases-loop-after : goal.decreases-loop-after
decreases-loop-after g l = length l.self.kept + length l.rest
