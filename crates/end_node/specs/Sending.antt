-- The datagrams that a node sends for its user. (Inside AppleTalk, the chapters on DDP and NBP)
use Rattle.std.specs.Prelude.{ℕ, Bool, not, ◌&&◌, ◌==◌, cond, Option, Some, None, Result, Ok, Err, nat_lt}
use Rattle.aarp.specs.Choosing.{settled}
use Rattle.at_base.specs.declared.address.Addr.{Addr}
use Rattle.at_base.specs.declared.error.Error.{Error}
use Rattle.at_base.specs.declared.error.Error.TheVariants.{NoSuch, TooLong, NoRouter}
use Rattle.at_base.specs.declared.error.What.TheVariants.{Station}
use Rattle.at_base.specs.Limits.{max_data}
use Rattle.ddp.specs.declared.header.Header.{Header}
use Rattle.station.specs.Ways.{nobody}
use Rattle.station.specs.declared.output.Next.{Next}
use Rattle.station.specs.declared.output.Next.TheVariants as next
use Rattle.station.specs.declared.way.Way.{Way}
use Rattle.end_node.specs.Holding.{NodeHolding}
use Rattle.end_node.specs.Ways.{next_to}

-- No station has the target: network 0 means the node's own cable, and only node 255, all its nodes, is valid with it.
abbrev pub is_nobodys : Addr → Bool
is_nobodys a = a.net == 0 && not (a.node == 255)

-- the next station of a datagram that the node sends: for network 0 all stations of the cable
abbrev pub next_of : NodeHolding → Addr → Option Next
next_of h a = cond (a.net == 0) (Some next.All) (next_to h a)

-- the way of a datagram to this next station, with this source address, or NoRouter if there is no next station
abbrev pub way_or_none : Addr → Header → Option Next → Result Way Error
way_or_none own header None = Err NoRouter
way_or_none own header (Some to) = Ok (record { port = 0; next = to; header = record header { source = own } })

-- The way of a datagram with this header and len bytes of data from this address; or why it can't be sent: the node has
-- no address, no station has the target, it is too long, or it has to go to a router and the node has none.
abbrev pub sending_from : NodeHolding → Option Addr → Header → ℕ → Result Way Error
sending_from h None header len = Err (NoSuch Station)
sending_from h (Some own) header len =
    cond (is_nobodys header.target) (Err (NoSuch Station))
    (cond (nat_lt max_data len) (Err TooLong)
    (way_or_none own header (next_of h header.target)))

-- The way of a datagram with this header and len bytes of data; or why it can't be sent, in this order: the node has no
-- address, or no station has the target; it is too long; it has to go to a router and the node has none.
abbrev pub sending : NodeHolding → Header → ℕ → Result Way Error
sending h header len = sending_from h (settled h.port) header len

-- the header of a datagram that the node sends, without a source
abbrev pub header_to : Addr → ℕ → ℕ → ℕ → Bool → Header
header_to target target_socket source_socket kind summed = record {
  summed = summed;
  target = target;
  source = nobody;
  target_socket = target_socket;
  source_socket = source_socket;
  kind = kind;
}
