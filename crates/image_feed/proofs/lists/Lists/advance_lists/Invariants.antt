use Rattle.std.proofs.Common.{IsSome}
use Rattle.std.specs.Prelude.{unwrap_or}
use Rattle.image_feed.specs.Growing.{Leads}
use Rattle.image_feed.specs.Zones.{lists_on}
use Rattle.image_feed.proofs.lists.Lists.advance_lists.Given as goal

abbrev pub invariant-loop-after : goal.invariant-loop-after
invariant-loop-after l = IsSome l.self.left × Leads (lists_on l.version l.like l.fn.self) l.bytes (lists_on l.version l.like l.self) l.rest

abbrev pub decreases-loop-after : goal.decreases-loop-after
decreases-loop-after l = unwrap_or l.self.left 0
