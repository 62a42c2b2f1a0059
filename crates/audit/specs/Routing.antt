-- Forwarding of datagrams by the routers' tables. (Inside AppleTalk, the chapters on DDP and RTMP)
use Rattle.std.specs.Prelude.{ℕ, ◌&&◌, cond, List, Option, Some, None, length, slice_get, find, nat_lt, option_and_then}
use Rattle.at_base.specs.declared.address.Addr.{Addr}
use Rattle.at_base.specs.Range.{is_between}
use Rattle.rtmp.specs.States.{is_usable}
use Rattle.table_image.specs.Rows.{is_direct}
use Rattle.table_image.specs.Internet.{Internet}
use Rattle.audit.specs.Places.{index_of}
use Rattle.table_image.specs.Seats.{Seat, seat_at}
use Rattle.table_image.specs.declared.port.Port.{Port}
use Rattle.table_image.specs.declared.row.Row.{Row}
use Rattle.table_image.specs.declared.router.Router.{Router}

-- the home of a network: the index of the cable whose range contains it, if any
abbrev pub home : Internet → ℕ → Option ℕ
home i n = index_of (λ c. is_between c.start c.end n) i.cables

-- the usable row whose range contains the network, if any
abbrev pub row_for : List Row → ℕ → Option Row
row_for rows n = find (λ row. is_usable row.state && is_between row.start row.end n) rows

-- the router with this seat; none if the seat is a node's
abbrev pub router_of : Internet → Option Seat → Option ℕ
router_of i None = None
router_of i (Some s) = cond (nat_lt s.station (length i.routers)) (Some s.station) None

-- the owner of an address on a cable: the router that has a port there with that address, if any
abbrev pub owner : Internet → ℕ → Addr → Option ℕ
owner i cable a = router_of i (seat_at i cable a)

-- the action of a router for a datagram: it puts the datagram on the cable where it ends, hands it on to a next router,
-- at that router's address on a cable, or has no route
pub data Hand : Type 0 where
  Here : (cable : ℕ) → Hand
  On : (router cable : ℕ) (address : Addr) → Hand
  Nowhere : Hand

-- handing on to the owner of an address, if there is one
abbrev pub hand_to : Option ℕ → ℕ → Addr → Hand
hand_to None cable a = Nowhere
hand_to (Some r) cable a = On r cable a

-- handing on by a row, on the row's port
abbrev pub hand_over : Internet → Row → Option Port → Hand
hand_over i row None = Nowhere
hand_over i row (Some port) = cond (is_direct row) (Here port.cable) (hand_to (owner i port.cable row.next) port.cable row.next)

-- handing on by the row that a router uses
abbrev pub hand_by : Internet → Router → Option Row → Hand
hand_by i router None = Nowhere
hand_by i router (Some row) = hand_over i row (slice_get router.ports row.port)

-- handing on at a router, if it exists
abbrev pub hand_at : Internet → Option Router → ℕ → Hand
hand_at i None n = Nowhere
hand_at i (Some router) n = hand_by i router (row_for router.rows n)

-- the action of router r for a datagram to network n
abbrev pub hand : Internet → ℕ → ℕ → Hand
hand i r n = hand_at i (slice_get i.routers r) n

-- the distance of a row, or 0 without one
abbrev pub distance_in : Option Row → ℕ
distance_in None = 0
distance_in (Some row) = row.distance

-- the number of routers from router r to network n, by r's table
abbrev pub distance : Internet → ℕ → ℕ → ℕ
distance i r n = distance_in (option_and_then (λ router. row_for router.rows n) (slice_get i.routers r))
