-- Receiving a frame changes nothing of a node's state but the choice of an address that isn't settled, its received
-- datagrams and its transactions.
use Rattle.std.proofs.Common.{Bool, true, false, ◌&&◌, cond, List, [], Option, Some, None, refl, ap, subst, sym}
use Rattle.aarp.specs.declared.packet.Packet.{Packet}
use Rattle.aarp.proofs.Settled.{address_stays}
use Rattle.ddp.specs.Datagram.{Datagram}
use Rattle.station.specs.Hearing.{Hearing}
use Rattle.station.specs.Resolution.{packet_at}
use Rattle.station.specs.Values.{datagram_at}
use Rattle.station.specs.Ways.{checks}
use Rattle.station.specs.declared.heard.Kind.{Kind}
use Rattle.station.specs.declared.heard.Kind.TheVariants.{Ddp, Aarp}
use Rattle.station.specs.declared.heard.Link.{Link}
use Rattle.station.specs.declared.output.Output.{Output}
use Rattle.end_node.specs.Answers.{Hears, heard_datagram, heard_kind, heard_own, heard_packet, takes}
use Rattle.end_node.specs.Holding.{NodeHolding}
use Rattle.end_node.specs.Stays.{NodeStays}

same : (h : NodeHolding) → NodeStays h h
same h = record { address = refl; zone = refl; router = refl; names = refl }

datagram_stays : (h : NodeHolding) (l : Link) (o : Option Datagram) → NodeStays h (heard_datagram h l o).1
datagram_stays h l None = same h
datagram_stays h l (Some d) = by (takes h l d && checks d)
  where
    by : (b : Bool) → NodeStays h (cond b (heard_own h d) ([], h)).1
    by true = record { address = refl; zone = refl; router = refl; names = refl }
    by false = same h

packet_stays : (h : NodeHolding) (o : Option Packet) → NodeStays h (heard_packet h o).1
packet_stays h None = same h
packet_stays h (Some p) = record { address = address_stays p h.port; zone = refl; router = refl; names = refl }

kind_stays : (h : NodeHolding) (x : Hearing) (k : Kind) → NodeStays h (heard_kind k h x).1
kind_stays h x Ddp = datagram_stays h x.link (datagram_at x.bytes)
kind_stays h x Aarp = packet_stays h (packet_at x.bytes)

pub node_stays : (old new : NodeHolding) (x : Hearing) (added : List Output) → Hears old x added new → NodeStays old new
node_stays old new x added h =
    let is = subst (NodeStays old) (sym (ap (λ (p : List Output × NodeHolding). p.1) h.0)) (kind_stays old x x.kind) in
    record { address = is.address; zone = is.zone; router = is.router; names = is.names }
