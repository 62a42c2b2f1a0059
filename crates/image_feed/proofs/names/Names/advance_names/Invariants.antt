use Rattle.std.proofs.Common.{IsSome}
use Rattle.std.specs.Prelude.{unwrap_or}
use Rattle.table_image.specs.declared.version.Version.{Version}
use Rattle.image_feed.specs.Growing.{Leads}
use Rattle.image_feed.specs.Zones.{names_on}
use Rattle.image_feed.proofs.names.Names.advance_names.Given as goal

abbrev pub invariant-loop-after : goal.invariant-loop-after
invariant-loop-after l =
    IsSome l.self.left × ((version : Version) → Leads (names_on version l.like l.fn.self) l.bytes (names_on version l.like l.self) l.rest)

abbrev pub decreases-loop-after : goal.decreases-loop-after
decreases-loop-after l = unwrap_or l.self.left 0
