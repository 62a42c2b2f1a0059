-- What a live router whose ports have settled makes of frames and of ticks.
use Rattle.std.specs.Prelude.{◌≡◌, ℕ, List, [], Some, slice_get}
use Rattle.std.specs.List.{AllByRecursion as Each}
use Rattle.at_base.specs.Spelling.{bytes_of}
use Rattle.at_base.specs.declared.address.Addr.{Addr}
use Rattle.ddp.specs.Datagram.{Datagram, datagram_of}
use Rattle.lasting.specs.Plain.{IsPlainOutput}
use Rattle.live_router.specs.Living.{Living, routes_taught}
use Rattle.live_router.specs.Ticking.{data_way, phase_after, routes_aged, sent_by, zones_aged}
use Rattle.rtmp.specs.Data.{RoutingData, routing_data}
use Rattle.station.specs.declared.output.Output.{Output}

-- the datagram of routing data from an address
abbrev pub data_datagram : Addr → RoutingData → Datagram
data_datagram me p = datagram_of (data_way 0 me).header (bytes_of routing_data p)

-- The routers differ in no more than their rows, their requests and their phases.
pub record IsLikeRouter (a b : Living) : Type 0 where
  pub ports : b.router.ports ≡ a.router.ports
  pub zones : b.router.zones ≡ a.router.zones

-- What a router does that hears a plain frame: its outputs are plain, and it has its ports, its rows, its zone lists and
-- its phase as before.
pub record HearsPlain (l : Living) (added : List Output) (new : Living) : Type 0 where
  pub plain : Each IsPlainOutput added
  pub like : IsLikeRouter l new
  pub routes : new.router.routes ≡ l.router.routes
  pub phase : new.phase ≡ l.phase

-- What a router does that hears routing data in a frame to all stations: it puts out nothing, and has its ports, its zone
-- lists and its phase as before, and the rows after the packet.
pub record HearsData (port : ℕ) (packet : RoutingData) (l : Living) (added : List Output) (new : Living) : Type 0 where
  pub silent : added ≡ []
  pub like : IsLikeRouter l new
  pub routes : new.router.routes ≡ routes_taught port l.router.routes (slice_get l.router.ports port) (Some packet)
  pub phase : new.phase ≡ l.phase

-- What a router does in a tick: it has its ports as before, its rows and its zone lists have aged in phase 0, and it sends
-- routing data and queries, if it sends any in this phase.
pub record Ticks (l : Living) (added : List Output) (new : Living) : Type 0 where
  pub phase : new.phase ≡ phase_after l.phase
  pub ports : new.router.ports ≡ l.router.ports
  pub routes : new.router.routes ≡ routes_aged (phase_after l.phase) l.router.routes
  pub zones : new.router.zones ≡ zones_aged (phase_after l.phase) l.router.routes l.router.zones
  pub sends : added ≡ sent_by (phase_after l.phase) new.router
