use Rattle.std.proofs.Common.{IsSome}
use Rattle.std.specs.Prelude.{unwrap_or}
use Rattle.image_feed.specs.Growing.{Leads, growth_on}
use Rattle.image_feed.proofs.growth.Growth.advance_parts.Given as goal

abbrev pub invariant-loop-after : goal.invariant-loop-after
invariant-loop-after g l =
    IsSome l.self.left
    × Leads (growth_on l.limit (g.S.Growing.spelling l.context) (g.S.Growing.goes_on l.context) l.fn.self.left l.fn.self.items.items l.fn.self.hint
    l.fn.self.next) l.bytes
    (growth_on l.limit (g.S.Growing.spelling l.context) (g.S.Growing.goes_on l.context) l.self.left l.self.items.items l.self.hint l.self.next) l.rest

abbrev pub decreases-loop-after : goal.decreases-loop-after
decreases-loop-after g l = unwrap_or l.self.left 0
