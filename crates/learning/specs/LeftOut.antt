-- The names of replies that a router leaves out.
use Rattle.std.specs.Prelude.{ℕ, Bool, true, false, not, List, Option, Some, None}
use Rattle.at_base.specs.Range.{Span}
use Rattle.rtmp.specs.declared.row.Row.{Row}
use Rattle.zip_zones.specs.Answers.{is_taken, range_heard}
use Rattle.zip_zones.specs.Zones.{Known}
use Rattle.zip_zones.specs.declared.entry.Entry.{Entry}
use Rattle.zip_zones.specs.declared.packet.Packet.{Packet}
use Rattle.zip_zones.specs.declared.packet.Packet.TheVariants as p

-- the name in an entry is left out: no reply for its network is accepted, or its list isn't
abbrev pub is_left_out : List Row → ℕ → List Known → Entry → Bool
is_left_out rows total table e = by_range (range_heard rows e.net)
  where
    by_range : Option Span → Bool
    by_range None = true
    by_range (Some range) = not (is_taken range total table)

-- the packet is a reply to a query
abbrev pub is_reply : Packet → Bool
is_reply (p.Reply count entries) = true
is_reply (p.ExtendedReply total entries) = true
is_reply _ = false
