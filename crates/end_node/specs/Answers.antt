-- The outputs of a node for a frame that it receives, and its state after it. (Inside AppleTalk, the chapters on DDP,
-- AEP, NBP, ATP and AARP)
use Rattle.std.specs.Prelude.{◌≡◌, ◌≢◌, ℕ, Bool, true, false, ◌&&◌, ◌||◌, ◌==◌, cond, List, [], ◌∷◌, ◌++◌, Option, Some, None}
use Rattle.std.specs.Prelude.{option_map, option_to_list, if◌then◌else◌}
use Rattle.aarp.specs.Choosing.{answer, heard as port_heard, settled}
use Rattle.aarp.specs.declared.packet.Packet.{Packet}
use Rattle.at_base.specs.Range.{is_between}
use Rattle.at_base.specs.declared.address.Addr.{Addr}
use Rattle.atp.specs.Packets.{AtpPacket}
use Rattle.atp.specs.Requesting.{Transactions, after_hearing, known}
use Rattle.atp.specs.declared.ask.Peer.{Peer}
use Rattle.circular_buffer.specs.Buffer.{keep_last}
use Rattle.ddp.specs.Datagram.{Datagram}
use Rattle.echo.specs.Echo.{echo_reply}
use Rattle.station.specs.Hearing.{Hearing}
use Rattle.station.specs.Ports.{has}
use Rattle.station.specs.Resolution.{packet_at, wired}
use Rattle.station.specs.Values.{datagram_at}
use Rattle.station.specs.Ways.{checks, is_to, replying}
use Rattle.station.specs.declared.heard.Kind.{Kind}
use Rattle.station.specs.declared.heard.Kind.TheVariants.{Ddp, Aarp}
use Rattle.station.specs.declared.heard.Link.{Link}
use Rattle.station.specs.declared.heard.Link.TheVariants as link
use Rattle.station.specs.declared.output.Output.{Output}
use Rattle.end_node.specs.Holding.{NodeHolding}
use Rattle.end_node.specs.Lookups.{told}
use Rattle.nbp.specs.Packets.{names_in}
use Rattle.end_node.specs.Ways.{way_back}
use Rattle.end_node.specs.declared.node.Datagram.{Datagram as Received}
use Rattle.atp.specs.InPlace.{transaction_in}

-- the target means every node of the node's cable
abbrev pub is_all : NodeHolding → Addr → Bool
is_all h a = a.node == 255 && (a.net == 0 || is_between h.port.range.start h.port.range.end a.net)

-- The node accepts a datagram as its own: in a frame to itself if it is for the node's address, in a frame to all if it
-- is for every node of the node's cable, and in a frame to a group if it is for the names socket.
abbrev pub takes : NodeHolding → Link → Datagram → Bool
takes h link.Own d = has d.target (settled h.port)
takes h link.All d = is_all h d.target
takes h (link.Group g) d = is_to 2 2 d

-- the datagram is for one of the node's own services: echoes, names, routing data, zones and transactions
abbrev pub is_served : Datagram → Bool
is_served d = is_to 4 4 d || is_to 2 2 d || is_to 1 1 d || is_to 6 6 d || is_to 3 252 d

-- the outputs for a datagram that the node accepted, by its type and socket: echo replies, and replies to lookups
abbrev pub served : NodeHolding → Datagram → List Output
served h d =
    if is_to 4 4 d then replying (way_back h d) (option_to_list (echo_reply d))
    else if is_to 2 2 d then told h d (names_in d.payload)
    else []

-- a datagram as it is kept
abbrev pub kept : Datagram → Received
kept d = record {
  source = d.source;
  source_socket = d.source_socket;
  target_socket = d.target_socket;
  kind = d.kind;
  payload = d.payload;
}

-- the datagrams that are kept, with one more; if there are 64, the oldest is dropped
abbrev pub keeping : Received → List Received → List Received
keeping d ds = keep_last 64 (ds ++ d ∷ [])

-- The datagrams that are kept, with one more if there is one; if there are 64, the oldest is dropped for it.
abbrev pub keeping_any : Option Received → List Received → List Received
keeping_any None ds = ds
keeping_any (Some d) ds = keeping d ds

-- a datagram that the node accepted as it is kept, or None if it is for one of the node's own services
abbrev pub received_of : Datagram → Option Received
received_of d = cond (is_served d) None (Some (kept d))

-- the datagrams that are kept after a node accepted this datagram
abbrev pub received_after : NodeHolding → Datagram → List Received
received_after h d = keeping_any (received_of d) h.received

-- the outputs of a node for a datagram that it accepted, and its state after it
abbrev pub heard_own : NodeHolding → Datagram → List Output × NodeHolding
heard_own h d = (served h d, record h { received = received_after h d })

-- The outputs of a node for the datagram in a frame of this link, and its state after it: a datagram that it doesn't
-- accept or whose checksum is wrong has no outputs, and changes nothing.
abbrev pub heard_datagram : NodeHolding → Link → Option Datagram → List Output × NodeHolding
heard_datagram h l None = ([], h)
heard_datagram h l (Some d) =
    cond (takes h l d && checks d) (heard_own h d) ([], h)

-- The output of a node for an AARP packet, its response, and its state after it: while it chooses its address it moves
-- to the next one if the packet conflicts.
abbrev pub heard_packet : NodeHolding → Option Packet → List Output × NodeHolding
heard_packet h None = ([], h)
heard_packet h (Some p) = (wired 0 (answer h.port p), record h { port = port_heard p h.port })

-- the outputs of a node for a frame of this kind, and its state after it, without changes of its transactions
abbrev pub heard_kind : Kind → NodeHolding → Hearing → List Output × NodeHolding
heard_kind Ddp h x = heard_datagram h x.link (datagram_at x.bytes)
heard_kind Aarp h x = heard_packet h (packet_at x.bytes)

-- the outputs of a node for a frame, and its state after it, without changes of its transactions
abbrev pub heard : NodeHolding → Hearing → List Output × NodeHolding
heard h x = heard_kind x.kind h x

-- ---- Transactions

-- the address and the socket that a datagram comes from
abbrev pub peer : Datagram → Peer
peer d = record { addr = d.source; socket = d.source_socket }

-- the ATP packet in a datagram, if it is for the socket of the node's transactions
abbrev pub brought_by : Datagram → Option AtpPacket
brought_by d = cond (is_to 3 252 d) (transaction_in d.payload) None

-- The transactions received a packet from this peer: the transaction of its ID may be answered by it, and the others
-- stay the same.
pub record HearsPacket (from : Peer) (p : AtpPacket) (old new : Transactions) : Type 0 where
  pub here : known p.id new.slots ≡ option_map (after_hearing from p) (known p.id old.slots)
  pub others : (id : ℕ) → id ≢ p.id → known id new.slots ≡ known id old.slots
  pub next : new.next ≡ old.next

-- the transactions received the packet, if there is one; otherwise they stay the same
abbrev pub HearsAny : Peer → Option AtpPacket → Transactions → Transactions → Type 0
HearsAny from None old new = new ≡ old
HearsAny from (Some p) old new = HearsPacket from p old new

-- the transactions of a node received a datagram that the node accepted
abbrev pub AsksHearOwn : Datagram → Transactions → Transactions → Type 0
AsksHearOwn d old new = HearsAny (peer d) (brought_by d) old new

-- the transactions of a node received a datagram if the flag is true; otherwise they stay the same
abbrev pub AsksHearIf : Bool → Datagram → Transactions → Transactions → Type 0
AsksHearIf false d old new = new ≡ old
AsksHearIf true d old new = AsksHearOwn d old new

-- the transactions of a node received the datagram in a frame of this link, if the node accepts it and its checksum is
-- right
abbrev pub AsksHearDatagram : NodeHolding → Link → Option Datagram → Transactions → Type 0
AsksHearDatagram h l None new = new ≡ h.asks
AsksHearDatagram h l (Some d) new = AsksHearIf (takes h l d && checks d) d h.asks new

-- the transactions of a node are these after a frame of this kind; an AARP frame leaves them the same
abbrev pub AsksHearKind : Kind → NodeHolding → Hearing → Transactions → Type 0
AsksHearKind Ddp h x new = AsksHearDatagram h x.link (datagram_at x.bytes) new
AsksHearKind Aarp h x new = new ≡ h.asks

-- the transactions of a node are these after a frame
abbrev pub HearsAsks : NodeHolding → Hearing → Transactions → Type 0
HearsAsks h x new = AsksHearKind x.kind h x new

-- A node in state old receives a frame, has these outputs, and is in state new after it. Its transactions are given by
-- what is known of each ID; everything else is a function of the old state.
abbrev pub Hears : NodeHolding → Hearing → List Output → NodeHolding → Type 0
Hears old x added new = ((added, record new { asks = old.asks }) ≡ heard old x) × HearsAsks old x new.asks

-- A tick changes nothing, and has no outputs.
abbrev pub Ticks : NodeHolding → List Output → NodeHolding → Type 0
Ticks old added new = (added ≡ []) × (new ≡ old)
