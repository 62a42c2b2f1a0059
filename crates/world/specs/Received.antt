-- The datagrams that the stations of a world have received.
use Rattle.std.specs.Prelude.{◌≡◌, ◌⊎◌, ℕ, List, [], Some, slice_get}
use Rattle.std.specs.List.{All}
use Rattle.cable_model.specs.Transcript.{Entry}
use Rattle.ddp.specs.Datagram.{Datagram}
use Rattle.end_node.specs.Answers.{kept, keeping}
use Rattle.end_node.specs.declared.node.Datagram.{Datagram as Received}
use Rattle.station.specs.declared.member.Member.{Member}
use Rattle.station.specs.declared.member.Member.TheVariants.{Router, Node}
use Rattle.live_node.specs.Living.{LivingNode}
use Rattle.live_router.specs.Living.{Living}
use Rattle.station.specs.Hearing.{Hearing}
use Rattle.station.specs.Values.{datagram_at}
use Rattle.world.specs.Worlds.{IsReceived}

-- The last datagrams that a station has received; a router has none.
abbrev pub got : Member Living LivingNode → List Received
got (Router l) = []
got (Node n) = n.node.received

-- Each station's received datagrams are those of frames that it took.
abbrev pub AreReceived : List Entry → List (List Received) → Type 0
AreReceived entries gots =
    (k : ℕ) (ds : List Received) → slice_get gots k ≡ Some ds → All (IsReceived entries k) ds

-- After a station heard a frame, its received datagrams are the same as before, or the frame's datagram was added.
abbrev pub Hears : Hearing → List Received → List Received → Type 0
Hears x old new = (new ≡ old) ⊎ ((d : Datagram) × (datagram_at x.bytes ≡ Some d) × (new ≡ keeping (kept d) old))
