-- The effect of packets of routing data on the routing table of the router that receives them. (Inside AppleTalk, the
-- chapter on RTMP; which packets are ignored is this project's own)
use Rattle.std.specs.Prelude.{ℕ, Bool, ◌&&◌, List, if◌then◌else◌}
use Rattle.at_base.specs.Range.{Span, is_between, same_range}
use Rattle.rtmp.specs.declared.row.Row.{Row}
use Rattle.rtmp.specs.declared.tuple.Nonextended.{Nonextended}
use Rattle.rtmp.specs.Data.{RoutingData, own_range, tuples_heard}
use Rattle.rtmp.specs.Routes.{heard_packet}

-- the packet's router is on a cable of this range, and sent the packet there: the range of its first tuple is the
-- cable's
abbrev pub is_from_neighbour : Span → RoutingData → Bool
is_from_neighbour range p = is_between range.start range.end p.router.net && same_range (own_range p) range

-- the rows after a packet was received on a port whose cable has this range: only a neighbour's packet counts
abbrev pub routes_after : Nonextended → Span → ℕ → RoutingData → List Row → List Row
routes_after nonextended range port p rows =
    if is_from_neighbour range p then heard_packet p.router port (tuples_heard nonextended p.written) rows else rows
