-- The state of a live node, and what it learns from frames. (Inside AppleTalk, the chapters on RTMP and ZIP)
use Rattle.std.specs.Prelude.{◌≡◌, ℕ, Bool, true, not, ◌&&◌, List, Option, Some, None, if◌then◌else◌, nat_lt}
use Rattle.std.specs.Option.{unwrap_or}
use Rattle.at_base.specs.Packets.{packets}
use Rattle.ddp.specs.Datagram.{Datagram}
use Rattle.end_node.specs.Answers.{Hears}
use Rattle.station.specs.Ways.{is_to}
use Rattle.end_node.specs.Holding.{NodeHolding}
use Rattle.end_node.specs.Taking.{taken}
use Rattle.rtmp.specs.Data.{RoutingData, routing_in}
use Rattle.station.specs.Hearing.{Hearing}
use Rattle.station.specs.declared.output.Output.{Output}
use Rattle.zip_zones.specs.Formats.{zones_in}
use Rattle.zip_zones.specs.declared.packet.NetInfo.{NetInfo}
use Rattle.zip_zones.specs.declared.packet.Packet.{Packet}
use Rattle.zip_zones.specs.declared.packet.Packet.TheVariants.{Query, Reply, GetNetInfo, NetInfoReply, ExtendedReply}

-- The state of a live node: the state of its node; the number of ticks since it last received routing data; the number
-- of GetNetInfo requests that it has sent, and of ticks before it sends the next; and whether one was answered.
pub record LivingNode : Type 0 where
  pub node : NodeHolding
  pub silence : ℕ
  pub asked : ℕ
  pub wait : ℕ
  pub answered : Bool

-- A node after a packet of routing data, if there is one: the router that sent it becomes the node's router.
abbrev pub routed : LivingNode → Option RoutingData → LivingNode
routed l None = l
routed l (Some p) = record l { node = record l.node { router = Some p.router }; silence = 0 }

-- the node waits for a GetNetInfo reply: it has sent a request, and none was answered
abbrev pub is_waiting : LivingNode → Bool
is_waiting l = nat_lt 0 l.asked && not l.answered

-- A node after a GetNetInfo reply: if it waits for one, the reply's default zone, if it has one, becomes the node's
-- zone; otherwise the reply is ignored.
abbrev pub informed : LivingNode → NetInfo → LivingNode
informed l info =
    if is_waiting l then record l { node = record l.node { zone = unwrap_or info.default l.node.zone }; answered = true } else l

-- A node after a ZIP packet, if there is one; only a GetNetInfo reply changes it.
abbrev pub told : LivingNode → Option Packet → LivingNode
told l None = l
told l (Some (Query nets)) = l
told l (Some (Reply count entries)) = l
told l (Some (GetNetInfo unused asked)) = l
told l (Some (NetInfoReply info)) = informed l info
told l (Some (ExtendedReply total entries)) = l

-- A node after it learns from a datagram that it accepted, if there is one: from routing data for socket 1, and from
-- ZIP packets for socket 6.
abbrev pub taught : LivingNode → Option Datagram → LivingNode
taught l None = l
taught l (Some d) =
    if is_to 1 1 d then routed l (routing_in d.payload)
    else if is_to 6 6 d then told l (zones_in d.payload)
    else l

-- A live node in state old receives a frame, has these outputs, and is in state new after it: it handles the frame as
-- its frozen node does, and then learns.
pub record LiveHears (old : LivingNode) (x : Hearing) (added : List Output) (new : LivingNode) : Type 0 where
  pub answered : NodeHolding
  pub answers : Hears old.node x added answered
  pub learns : new ≡ taught (record old { node = answered }) (taken old.node x)
