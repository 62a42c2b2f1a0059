use Rattle.std.proofs.Common.{IsSome}
use Rattle.std.specs.Prelude.{unwrap_or}
use Rattle.at_base.specs.Grammar.{one}
use Rattle.image_feed.specs.Growing.{Leads, counted_on}
use Rattle.image_feed.proofs.several.Several.advance_items.Given as goal

abbrev pub invariant-loop-after : goal.invariant-loop-after
invariant-loop-after g l =
    IsSome l.self.left
    × Leads (counted_on one 0 (g.T.Item.spelling l.context) g.T.Item.next l.initial.self.left l.initial.self.items.items l.initial.self.low) l.bytes
    (counted_on one 0 (g.T.Item.spelling l.context) g.T.Item.next l.self.left l.self.items.items l.self.low) l.rest

abbrev pub decreases-loop-after : goal.decreases-loop-after
decreases-loop-after g l = unwrap_or l.self.left 0
