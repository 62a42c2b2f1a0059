-- The datagrams that events make nodes send. Inside AppleTalk, the chapters on DDP and NBP; the choice of the router is
-- this project's own.
use Rattle.std.specs.Prelude.{◌≡◌, ◌⊎◌, true, ℕ, ◌+◌, false, ◌==◌, cond, List, Option, Some, None, Result, Ok, Err}
use Rattle.std.specs.Prelude.{length, is_some, nat_lt, []}
use Rattle.std.specs.Prelude.{position, slice_get}
use Rattle.at_base.specs.Address.{same_address}
use Rattle.at_base.specs.Spelling.{bytes_of}
use Rattle.at_base.specs.declared.address.Addr.{Addr}
use Rattle.at_base.specs.declared.error.Error.{Error}
use Rattle.at_base.specs.declared.error.Error.TheVariants.{NoSuch, NoRouter, TooLong}
use Rattle.at_base.specs.declared.error.What.TheVariants as what
use Rattle.audit.specs.Routing.{owner}
use Rattle.ddp.specs.Datagram.{datagram, datagram_of}
use Rattle.ddp.specs.declared.header.Header.{Header}
use Rattle.end_node.specs.Asking.{asked_by, request_bytes}
use Rattle.end_node.specs.Lookups.{is_any}
use Rattle.frozen.specs.declared.order.Order.{Order}
use Rattle.ddp.specs.Bodies.{target}
use Rattle.legal_runs.specs.Answers.{MayLeave}
use Rattle.legal_runs.specs.Legs.{Leg}
use Rattle.legal_runs.specs.Stations.{is_on, is_router}
use Rattle.nbp.specs.declared.tuple.Tuple.{Tuple}
use Rattle.station.specs.declared.output.Next.{Next}
use Rattle.station.specs.declared.output.Next.TheVariants as next
use Rattle.table_image.specs.Internet.{Internet}
use Rattle.table_image.specs.declared.node.Node.{Node}
use Rattle.at_base.specs.Limits.{max_data}

-- The index of the node that has the address.
abbrev pub node_at : List Node → Addr → Option ℕ
node_at nodes a = position (λ n. same_address n.address a) nodes

-- The node's own router, or the error NoRouter if it has none.
abbrev pub own_router : Option Addr → Result Addr Error
own_router None = Err NoRouter
own_router (Some a) = Ok a

-- The router that a node sends through: the named one, which must have a port with this address on the node's cable, or
-- the node's own if none is named.
abbrev pub router_for : Internet → Node → Option Addr → Result Addr Error
router_for i node None = own_router node.router
router_for i node (Some via) = cond (is_some (owner i node.cable via)) (Ok via) (Err (NoSuch what.Router))

-- The router as the next receiver, or the error if there is none.
abbrev pub to_station : Result Addr Error → Result Next Error
to_station (Err e) = Err e
to_station (Ok a) = Ok (next.Station a)

-- The next receiver of a node's datagram: for network 0 all stations if the target is node 255, and otherwise an error;
-- for any other network a router.
abbrev pub next_for : Internet → Node → Option Addr → Addr → Result Next Error
next_for i node via target =
    cond (target.net == 0) (cond (target.node == 255) (Ok next.All) (Err (NoSuch what.Station))) (to_station (router_for i node via))

-- The order for a node to send `len` bytes of data with this header to this receiver, or the error TooLong above 586
-- bytes.
abbrev pub order_for : ℕ → Node → Header → ℕ → Result Next Error → Result Order Error
order_for station node header len (Err e) = Err e
order_for station node header len (Ok to) =
    cond (nat_lt max_data len) (Err TooLong) (Ok (record { station = station; cable = node.cable; next = to; header = header }))

-- The order for a node to send a broadcast request for names to this router.
abbrev pub asking_for : ℕ → Node → Result Addr Error → Result Order Error
asking_for station node (Err e) = Err e
asking_for station node (Ok a) = Ok (record {
  station = station;
  cable = node.cable;
  next = next.Station a;
  header = record {
    summed = false;
    target = a;
    source = node.address;
    target_socket = 2;
    source_socket = 253;
    kind = 2;
  };
})

-- The order for node k to send `len` bytes of data with this header, whose source becomes the node's address.
abbrev pub sent_at : Internet → ℕ → Option Node → Option Addr → Header → ℕ → Result Order Error
sent_at i k None via header len = Err (NoSuch what.Node)
sent_at i k (Some node) via header len =
    order_for (length i.routers + k) node (record header { source = node.address }) len (next_for i node via header.target)

-- The order for the node with this index, if there is one, to send `len` bytes of data.
abbrev pub sent_by : Internet → Option ℕ → Option Addr → Header → ℕ → Result Order Error
sent_by i None via header len = Err (NoSuch what.Node)
sent_by i (Some k) via header len = sent_at i k (slice_get i.nodes k) via header len

-- The order for the node with this address to send, or its first error: no such node; no such target station; no
-- router, or no such router on the node's cable; too much data.
abbrev pub send_order : Internet → Addr → Option Addr → Header → ℕ → Result Order Error
send_order i a via header len = sent_by i (node_at i.nodes a) via header len

-- The order for node k to ask a router for names.
abbrev pub asked_at : Internet → ℕ → Option Node → Option Addr → Result Order Error
asked_at i k None via = Err (NoSuch what.Node)
asked_at i k (Some node) via = asking_for (length i.routers + k) node (router_for i node via)

-- The order for the node with this index, if there is one, to ask a router for names.
abbrev pub asked_of : Internet → Option ℕ → Option Addr → Result Order Error
asked_of i None via = Err (NoSuch what.Node)
asked_of i (Some k) via = asked_at i k (slice_get i.nodes k) via

-- The order for the node with this address to ask a router for names, or its first error: no such node; no router, or
-- no such router on the node's cable.
abbrev pub ask_order : Internet → Addr → Option Addr → Result Order Error
ask_order i a via = asked_of i (node_at i.nodes a) via

-- The data of a node's request for names, with the node's own zone if the named zone is empty or "*".
abbrev pub data_at : Option Node → ℕ → Tuple → List ℕ
data_at None id name = []
data_at (Some node) id name =
    request_bytes id (asked_by node.address name.object name.kind (cond (is_any name.zone) node.zone name.zone))

-- The data of the request for names of the node with this index, empty if there is none.
abbrev pub data_by : Internet → Option ℕ → ℕ → Tuple → List ℕ
data_by i None id name = []
data_by i (Some k) id name = data_at (slice_get i.nodes k) id name

-- The data of the request for names of the node with this address.
abbrev pub ask_data : Internet → Addr → ℕ → Tuple → List ℕ
ask_data i a id name = data_by i (node_at i.nodes a) id name

-- The bytes of the datagram of an order with this data.
abbrev pub bytes_for : Order → List ℕ → List ℕ
bytes_for o payload = bytes_of datagram (datagram_of o.header payload)

-- A node may carry out the order: the station is a node on the cable, and the datagram may leave to the order's next
-- receiver, which is a router of the cable unless the target's network is 0.
pub record IsFair (i : Internet) (o : Order) : Type 0 where
  pub by_node : is_router i o.station ≡ false
  pub seated : is_on i o.station o.cable ≡ true
  pub goes : (l : Leg) → l.cable ≡ o.cable → l.next ≡ o.next → target l.body ≡ o.header.target → MayLeave i l
  pub handed :
      (o.header.target.net ≡ 0) ⊎ ((a : Addr) × (r : ℕ) × (o.next ≡ next.Station a) × (owner i o.cable a ≡ Some r))
