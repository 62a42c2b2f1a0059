-- Rows of an internet as routers change them by routing data. (Inside AppleTalk, the chapter on RTMP)
use Rattle.std.specs.Prelude.{◌≡◌, ◌≢◌, ◌⊎◌, ℕ, suc, false, List, [], ◌∷◌, Option, Some, None, length, map, slice_get}
use Rattle.at_base.specs.Range.{Span}
use Rattle.learning.specs.Heard.{routes_after}
use Rattle.rtmp.specs.Data.{RoutingData}
use Rattle.rtmp.specs.Routes.{IsRouteMap, aged, is_direct}
use Rattle.rtmp.specs.Sending.{packet_numbered}
use Rattle.rtmp.specs.declared.request.Horizon.TheVariants.{Split}
use Rattle.rtmp.specs.declared.tuple.Nonextended.TheVariants.{Skipped}
use Rattle.rtmp.specs.declared.row.Row.{Row as RouteRow}
use Rattle.rtmp.specs.declared.state.State.TheVariants.{Good}
use Rattle.settled.specs.Moved.{IsMoved}
use Rattle.table_image.specs.Internet.{Internet, internet}
use Rattle.table_image.specs.RouteRows.{route_row}
use Rattle.table_image.specs.declared.cable.Cable.{Cable}
use Rattle.table_image.specs.declared.port.Port.{Port}
use Rattle.table_image.specs.declared.row.Row.{Row}
use Rattle.table_image.specs.declared.router.Router.{Router}

-- the row of a routing table as one of an image
abbrev pub image_row : RouteRow → Row
image_row r = record {
  start = r.range.start;
  end = r.range.end;
  distance = r.distance;
  port = r.port;
  next = r.next;
  state =
      r.state;
}

-- The rows of router r's table may be these instead: each row has become one of the same range and distance, and they
-- are a routing table.
pub record AreMovedRows (i : Internet) (r : ℕ) (router : Router) (rows : List RouteRow) : Type 0 where
  pub table : IsRouteMap rows
  pub count : length router.rows ≡ length rows
  pub each : (k : ℕ) (a : Row) (c : RouteRow) → slice_get router.rows k ≡ Some a → slice_get rows k ≡ Some c
      → IsMoved i r router a (image_row c)

-- Router r has its port n, and another router s its port q, on a cable of this range.
pub record AreNeighbours (i : Internet) (r n s q : ℕ) (range : Span) : Type 0 where
  pub router : Router
  pub router_at : slice_get i.routers r ≡ Some router
  pub port : Port
  pub port_at : slice_get router.ports n ≡ Some port
  pub their : Router
  pub their_at : slice_get i.routers s ≡ Some their
  pub their_port : Port
  pub their_port_at : slice_get their.ports q ≡ Some their_port
  pub other : r ≢ s
  pub shared : their_port.cable ≡ port.cable
  pub cable : Cable
  pub cable_at : slice_get i.cables port.cable ≡ Some cable
  pub spans : range ≡ record { start = cable.start; end = cable.end }

-- the rows after routing data was heard by port n, on a cable of this range: those after the packet, if one is sent
abbrev pub rows_heard : ℕ → Span → Option RoutingData → List RouteRow → List RouteRow
rows_heard n range None rows = rows
rows_heard n range (Some packet) rows = routes_after Skipped range n packet rows

-- each row that isn't direct is Good
abbrev pub AreGood : List RouteRow → Type 0
AreGood rows = (k : ℕ) (c : RouteRow) → slice_get rows k ≡ Some c → is_direct c ≡ false → c.state ≡ Good

-- ---- exchanges

-- the rows of each router's table at one moment, by the router's index
abbrev pub Tables : Type 0
Tables = ℕ → List RouteRow

-- the tables are one of these
abbrev pub IsAmong : Tables → List Tables → Type 0
IsAmong t [] = ⊥
IsAmong t (u ∷ us) = (t ≡ u) ⊎ IsAmong t us

-- A router hears by its port n a packet of routing data, numbered m, that another one sends by its port q, of its rows
-- as they were at one of these moments.
pub record IsHearing (i : Internet) (moments : List Tables) (r : ℕ) (before after : List RouteRow) : Type 0 where
  pub n : ℕ
  pub s : ℕ
  pub q : ℕ
  pub m : ℕ
  pub range : Span
  pub neighbours : AreNeighbours i r n s q range
  pub tables : Tables
  pub among : IsAmong tables moments
  pub packet : RoutingData
  pub sent : packet_numbered Split q range neighbours.their_port.address m (tables s) ≡ Some packet
  pub heard : after ≡ routes_after Skipped range n packet before

-- A router ages its rows while all that aren't direct are Good.
pub record IsAgeing (before after : List RouteRow) : Type 0 where
  pub good : AreGood before
  pub older : after ≡ aged before

-- One router hears what another one sends, or ages its rows, and the others do nothing.
pub record IsStep (i : Internet) (moments : List Tables) (before after : Tables) : Type 0 where
  pub router : ℕ
  pub does : IsHearing i moments router (before router) (after router) ⊎ IsAgeing (before router) (after router)
  pub others : (s : ℕ) → (s ≡ router → ⊥) → after s ≡ before s

-- Moments of an internet's routers, the latest first: the first of all has the rows of the image, each router's a
-- routing table, and each later one is a step after the one before it.
abbrev pub AreMoments : Internet → List Tables → Type 0
AreMoments i [] = ⊥
AreMoments i (now ∷ []) =
    (r : ℕ) (router : Router) → slice_get i.routers r ≡ Some router → (now r ≡ map route_row router.rows) × IsRouteMap (now r)
AreMoments i (now ∷ before ∷ earlier) = IsStep i (before ∷ earlier) before now × AreMoments i (before ∷ earlier)

-- routers, numbered from r on, with the rows of these tables
abbrev pub routers_with : ℕ → Tables → List Router → List Router
routers_with r t [] = []
routers_with r t (x ∷ xs) = record { ports = x.ports; rows = map image_row (t r); lists = x.lists } ∷ routers_with (suc r) t xs

-- the internet with the rows of these tables
abbrev pub with_tables : Internet → Tables → Internet
with_tables i t = internet i.version i.cables (routers_with 0 t i.routers) i.nodes
