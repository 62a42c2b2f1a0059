-- The ways of a node's datagrams. (Inside AppleTalk, the chapter on DDP)
use Rattle.std.specs.Prelude.{Bool, not, ◌&&◌, ◌==◌, cond, Option, Some, None}
use Rattle.at_base.specs.Range.{is_between}
use Rattle.at_base.specs.declared.address.Addr.{Addr}
use Rattle.aarp.specs.Choosing.{settled}
use Rattle.ddp.specs.Datagram.{Datagram}
use Rattle.ddp.specs.declared.header.Header.{Header}
use Rattle.station.specs.Ways.{reply_header, straight, way_from}
use Rattle.station.specs.declared.output.Next.{Next}
use Rattle.station.specs.declared.output.Next.TheVariants as next
use Rattle.station.specs.declared.way.Way.{Way}
use Rattle.end_node.specs.Holding.{NodeHolding}

-- the target is on the node's cable: its network is in the range, and its node isn't 0, which means any router
abbrev pub is_near : NodeHolding → Addr → Bool
is_near h a = is_between h.port.range.start h.port.range.end a.net && not (a.node == 0)

-- the node's router as the next station, if the node has one
abbrev pub to_router : Option Addr → Option Next
to_router None = None
to_router (Some a) = Some (next.Station a)

-- the next station of a datagram for a target: the target itself if it is on the node's cable, else the node's router
abbrev pub next_to : NodeHolding → Addr → Option Next
next_to h a = cond (is_near h a) (Some (straight a)) (to_router h.router)

-- the way of a datagram to this next station, if there is one, with the node's address as source
abbrev pub way_on : NodeHolding → Option Next → Header → Option Way
way_on h None header = None
way_on h (Some to) header = way_from (settled h.port) 0 to header

-- The way of a reply: None if the target's network is 0, the node has no address, or it has to go to a router and the
-- node has none.
abbrev pub reply_way : NodeHolding → Header → Option Way
reply_way h header = cond (header.target.net == 0) None (way_on h (next_to h header.target) header)

-- the way of the reply to a datagram, if there is one
abbrev pub way_back : NodeHolding → Datagram → Option Way
way_back h d = reply_way h (reply_header d d.source)
