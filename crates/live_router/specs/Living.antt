-- The state of a live router, and what it learns from frames. (Inside AppleTalk, the chapters on RTMP and ZIP)
use Rattle.std.specs.Prelude.{◌≡◌, ℕ, List, Option, Some, None, if◌then◌else◌, slice_get}
use Rattle.aarp.specs.Choosing.{Choice}
use Rattle.ddp.specs.Datagram.{Datagram}
use Rattle.learning.specs.Heard.{routes_after}
use Rattle.rtmp.specs.declared.tuple.Nonextended.{Nonextended}
use Rattle.rtmp.specs.declared.tuple.Nonextended.TheVariants.{Skipped}
use Rattle.router.specs.Answers.{heard}
use Rattle.station.specs.Ways.{is_to}
use Rattle.router.specs.Ending.{ended}
use Rattle.router.specs.Holding.{Holding}
use Rattle.zip_zones.specs.Formats.{zones_in}
use Rattle.rtmp.specs.Data.{RoutingData, routing_in}
use Rattle.rtmp.specs.declared.row.Row.{Row}
use Rattle.station.specs.Hearing.{Hearing}
use Rattle.station.specs.declared.output.Output.{Output}
use Rattle.zip_zones.specs.Answers.{after_reply}
use Rattle.zip_zones.specs.Zones.{Known}
use Rattle.zip_zones.specs.declared.packet.Packet.{Packet}

-- The state of a live router: the state of its router, and the number of ticks since its rows last aged or since it
-- began.
pub record Living : Type 0 where
  pub router : Holding
  pub phase : ℕ

-- The rows after a packet of routing data, if there is one, that ended on port p; only the packets of a neighbour on
-- that port count, and of these nonextended tuples are heard as said.
abbrev pub routes_taught_as : Nonextended → ℕ → List Row → Option Choice → Option RoutingData → List Row
routes_taught_as n p rows (Some c) (Some heard) = routes_after n c.range p heard rows
routes_taught_as n p rows (Some c) None = rows
routes_taught_as n p rows None heard = rows

-- The zone table after a ZIP packet, if there is one; only replies change it.
abbrev pub zones_taught : List Row → List Known → Option Packet → List Known
zones_taught rows zones None = zones
zones_taught rows zones (Some packet) = after_reply rows packet zones

-- The rows after a datagram that ended on port p; only routing data for socket 1 changes them.
abbrev pub routes_then_as : Nonextended → Holding → ℕ → Datagram → List Row
routes_then_as n h p d =
    if is_to 1 1 d then routes_taught_as n p h.routes (slice_get h.ports p) (routing_in d.payload) else h.routes

-- The zone table after a datagram that ended at the router; only ZIP packets for socket 6 change it.
abbrev pub zones_then : Holding → Datagram → List Known
zones_then h d = if is_to 6 6 d then zones_taught h.routes h.zones (zones_in d.payload) else h.zones

-- The state after, but with the tables of state h as changed by the datagram that ended at the router, if one did.
abbrev pub taught_as : Nonextended → Holding → Holding → Option (ℕ × Datagram) → Holding
taught_as n h after None = after
taught_as n h after (Some e) = record after { routes = routes_then_as n h e.0 e.1; zones = zones_then h e.1 }

-- The outputs of a live router for a frame, and its state after it: it handles the frame as its frozen router does, and
-- then learns, from nonextended tuples as said.
abbrev pub heard_live_as : Nonextended → Living → Hearing → List Output × Living
heard_live_as n l x =
    ((heard l.router x).0, record l { router = taught_as n l.router (heard l.router x).1 (ended l.router x) })

-- ---- A router of a play, which skips nonextended tuples

-- the rows after a packet of routing data, if there is one, that ended on port p
abbrev pub routes_taught : ℕ → List Row → Option Choice → Option RoutingData → List Row
routes_taught = routes_taught_as Skipped

-- the rows after a datagram that ended on port p
abbrev pub routes_then : Holding → ℕ → Datagram → List Row
routes_then = routes_then_as Skipped

-- the state after, with the tables as changed by the datagram that ended at the router
abbrev pub taught : Holding → Holding → Option (ℕ × Datagram) → Holding
taught = taught_as Skipped

-- the outputs of a live router for a frame, and its state after it
abbrev pub heard_live : Living → Hearing → List Output × Living
heard_live = heard_live_as Skipped

-- a live router in state old receives a frame, has these outputs, and is in state new after it
abbrev pub LiveHears : Living → Hearing → List Output → Living → Type 0
LiveHears old x added new = (added, new) ≡ heard_live old x
