-- Datagrams that a node accepts as its own. (Inside AppleTalk, the chapter on DDP)
use Rattle.std.specs.Prelude.{◌&&◌, cond, Option, Some, None}
use Rattle.ddp.specs.Datagram.{Datagram}
use Rattle.station.specs.Hearing.{Hearing}
use Rattle.station.specs.Values.{datagram_at}
use Rattle.station.specs.Ways.{checks}
use Rattle.station.specs.declared.heard.Kind.{Kind}
use Rattle.station.specs.declared.heard.Kind.TheVariants.{Ddp, Aarp}
use Rattle.station.specs.declared.heard.Link.{Link}
use Rattle.end_node.specs.Answers.{takes}
use Rattle.end_node.specs.Holding.{NodeHolding}

-- the datagram in a frame of this link, if the node accepts it and its checksum is right
abbrev pub taken_datagram : NodeHolding → Link → Option Datagram → Option Datagram
taken_datagram h l None = None
taken_datagram h l (Some d) = cond (takes h l d && checks d) (Some d) None

-- the datagram in a frame of this kind, if the node accepts it and its checksum is right; an AARP frame has none
abbrev pub taken_kind : Kind → NodeHolding → Hearing → Option Datagram
taken_kind Ddp h x = taken_datagram h x.link (datagram_at x.bytes)
taken_kind Aarp h x = None

-- The datagram that a node receives in a frame, if the node accepts it as its own and its checksum is right.
abbrev pub taken : NodeHolding → Hearing → Option Datagram
taken h x = taken_kind x.kind h x
