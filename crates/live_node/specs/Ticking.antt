-- A tick of a live node. (Inside AppleTalk, the chapters on AARP, RTMP, ZIP and ATP; the times, and the order within a tick,
-- are this project's own)
use Rattle.std.specs.Prelude.{◌≡◌, ℕ, ◌+◌, ◌-◌, Bool, false, is_some, not, ◌&&◌, ◌==◌, List, [], ◌∷◌, ◌++◌, nat_lt}
use Rattle.std.specs.Prelude.{Option, Some, None, if◌then◌else◌}
use Rattle.aarp.specs.Choosing.{Choice, settled, ticked}
use Rattle.at_base.specs.Spelling.{bytes_of}
use Rattle.at_base.specs.declared.address.Addr.{Addr}
use Rattle.atp.specs.Requesting.{Transactions}
use Rattle.end_node.specs.Repeating.{AreRenewed, repeats_by}
use Rattle.live_node.specs.Living.{LivingNode}
use Rattle.station.specs.Making.{made}
use Rattle.station.specs.declared.output.Next.TheVariants as next
use Rattle.station.specs.declared.output.Output.{Output}
use Rattle.station.specs.declared.way.Way.{Way}
use Rattle.zip_zones.specs.Formats.{packet as spelled_packet}
use Rattle.zip_zones.specs.Written.{question}
use Rattle.station.specs.Resolution.{probed}

-- A node's router, and the number of ticks since the node last received routing data, after one more tick; after 250
-- ticks the node forgets its router.
abbrev pub silent : Option Addr → ℕ → Option Addr × ℕ
silent None silence = (None, silence)
silent (Some a) silence = if nat_lt (silence + 1) 250 then (Some a, silence + 1) else (None, 0)

-- The node still asks about its cable: it has an address, no request was answered, and it has sent fewer than three
-- requests.
abbrev pub is_asking : Option Addr → LivingNode → Bool
is_asking own l = is_some own && not l.answered && nat_lt l.asked 3

-- the node sends a GetNetInfo request in this tick
abbrev pub asks : Option Addr → LivingNode → Bool
asks own l = is_asking own l && l.wait == 0

-- the way of a GetNetInfo request from this address: to all stations of the cable, from socket 6 to socket 6
abbrev pub question_way : Addr → Way
question_way me = record {
  port = 0;
  next = next.All;
  header = record {
    summed = false;
    target = record { net = 0; node = 255 };
    source = me;
    target_socket = 6;
    source_socket = 6;
    kind = 6;
  };
}

-- the GetNetInfo request for this zone from the node's address, if it has one
abbrev pub asked_from : Option Addr → List ℕ → List Output
asked_from None zone = []
asked_from (Some me) zone = made (question_way me) (bytes_of spelled_packet (question zone)) ∷ []

-- the GetNetInfo request of a tick, if there is one
abbrev pub questions : Option Addr → LivingNode → List Output
questions own l = if asks own l then asked_from own l.node.zone else []

-- the number of GetNetInfo requests that the node has sent after this tick
abbrev pub asked_after : Option Addr → LivingNode → ℕ
asked_after own l = if asks own l then l.asked + 1 else l.asked

-- The number of ticks after this tick before the node sends its next request: requests are five ticks apart.
abbrev pub wait_after : Option Addr → LivingNode → ℕ
wait_after own l = if is_asking own l then (if l.wait == 0 then 4 else l.wait - 1) else l.wait

-- the choice of the node's address after a tick
abbrev pub choice_after : LivingNode → Choice
choice_after l = (ticked l.node.port).0

-- the node after a tick, after which it has this address or none, and these transactions
abbrev pub living_after : Option Addr → Transactions → LivingNode → LivingNode
living_after own asks l = record {
  node = record l.node { port = choice_after l; router = (silent l.node.router l.silence).0; asks = asks };
  silence = (silent l.node.router l.silence).1;
  asked = asked_after own l;
  wait = wait_after own l;
  answered = l.answered;
}

-- The outputs of a live node in a tick, after which it has this address or none: a probe, or a GetNetInfo request, or
-- neither, and then the requests for zones that the tick makes due.
abbrev pub sent_live : Option Addr → LivingNode → List Output
sent_live own l = probed 0 (ticked l.node.port).1 ++ questions own l ++ repeats_by own l.node.asks.slots

-- A live node in state old has these outputs in a tick, after which it has this address or none, and is in state new
-- after it.
pub record TicksAs (own : Option Addr) (old : LivingNode) (added : List Output) (new : LivingNode) : Type 0 where
  pub sends : added ≡ sent_live own old
  pub asks : AreRenewed own old.node.asks new.node.asks
  pub left : new ≡ living_after own new.node.asks old

-- a live node in state old has these outputs in a tick, and is in state new after it
abbrev pub LiveTicks : LivingNode → List Output → LivingNode → Type 0
LiveTicks old added new = TicksAs (settled (choice_after old)) old added new
