-- Transcripts over three cables where no station knows a mapping before it asks: an echo, a datagram for an address that no
-- station has, and a burst of datagrams that fills the ring of a port. Inside AppleTalk, the chapter on AARP.
use Rattle.std.specs.Prelude.{ℕ, List, [], ◌∷◌, ◌++◌, Some, codes}
use Rattle.at_base.specs.Multicast.{all_hw}
use Rattle.table_image.specs.Internet.{Internet}
use Rattle.table_image.specs.declared.mapping.Mapping.{Mapping}
use Rattle.table_image.specs.declared.port.Port.{Port}
use Rattle.table_image.specs.declared.version.Version.TheVariants.{V2}
use Rattle.audit.specs.Example.{addr, example_cables, first_router, hardware, port, second_router, three_cables}
use Rattle.station.specs.declared.heard.Kind.TheVariants.{Aarp}
use Rattle.cable_model.specs.declared.entry.How.TheVariants as how
use Rattle.cable_model.specs.Transcript.{Entry, Hold, Lost, Put, Reached, Sent, Took}
use Rattle.legal_runs.specs.Example.{echo_reply, echo_request, framed, plain}

-- Three cables in a line, where no station has a mapping.
abbrev pub unmapped : Internet
unmapped = record three_cables { version = V2 }

-- The mapping of an address to the hardware address that ends in this byte.
abbrev pub mapping : ℕ → ℕ → ℕ → Mapping
mapping net node byte = record { address = addr net node; hardware = hardware byte }

-- The port, with one mapping.
abbrev pub port_with : Port → Mapping → Port
port_with p m = record p { mappings = m ∷ [] }

-- Three cables in a line, where each station has a mapping of each of its neighbours.
abbrev pub mapped : Internet
mapped = record {
  version = V2;
  cables = example_cables;
  routers =
      record first_router {
        ports = port_with (port 0 (addr 10 1) 1) (mapping 10 7 5) ∷ port_with (port 1 (addr 20 1) 2) (mapping 20 2 3) ∷ [];
      }
      ∷ record second_router {
        ports = port_with (port 1 (addr 20 2) 3) (mapping 20 1 2) ∷ port_with (port 2 (addr 30 1) 4) (mapping 30 5 6) ∷ [];
      } ∷ [];
  nodes =
      record {
        cable = 0;
        address = addr 10 7;
        hardware = hardware 5;
        zone = codes "Red";
        router = Some (addr 10 1);
        names = [];
        mappings = mapping 10 1 1 ∷ [];
      }
      ∷ record {
        cable = 2;
        address = addr 30 5;
        hardware = hardware 6;
        zone = codes "Blue";
        router = Some (addr 30 1);
        names = record { socket = 129; enumerator = 1; object = codes "lab"; kind = codes "LaserWriter" } ∷ [];
        mappings = mapping 30 1 4 ∷ [];
      } ∷ [];
}

-- The bytes of an AARP packet with this function, from the station with this hardware address and address, to the one with
-- these hardware bytes and this node of the same network.
abbrev pub packet_bytes : ℕ → ℕ → ℕ → ℕ → List ℕ → ℕ → List ℕ
packet_bytes function byte net node to target =
    0 ∷ 1 ∷ 128 ∷ 155 ∷ 6 ∷ 4 ∷ 0 ∷ function ∷ 2 ∷ 0 ∷ 0 ∷ 0 ∷ 0 ∷ byte ∷ 0 ∷ 0 ∷ net ∷ node ∷ (to ++ 0 ∷ 0 ∷ net ∷ target ∷ [])

-- A request with this stamp, put on the cable by this sender, which has this hardware address and address, for the
-- hardware address of a node of the same network.
abbrev pub asking : ℕ → ℕ → ℕ → ℕ → ℕ → ℕ → ℕ → Entry
asking stamp cable sender byte net node target = Put (record {
  stamp = stamp;
  cable = cable;
  sender = sender;
  to = all_hw;
  kind = Aarp;
  bytes = packet_bytes 1 byte net node (0 ∷ 0 ∷ 0 ∷ 0 ∷ 0 ∷ 0 ∷ []) target;
})

-- The response with this stamp to the station with this hardware address and node, put on the cable by this sender, which
-- has this hardware address and address.
abbrev pub telling : ℕ → ℕ → ℕ → ℕ → ℕ → ℕ → ℕ → ℕ → Entry
telling stamp cable sender byte net node to target = Put (record {
  stamp = stamp;
  cable = cable;
  sender = sender;
  to = hardware to;
  kind = Aarp;
  bytes = packet_bytes 2 byte net node (2 ∷ 0 ∷ 0 ∷ 0 ∷ 0 ∷ to ∷ []) target;
})

-- A datagram that is held with this stamp on the cable by this station, for the station with this address.
abbrev pub held : ℕ → ℕ → ℕ → ℕ → ℕ → List ℕ → Entry
held stamp cable station net node bytes =
    Hold (record { stamp = stamp; cable = cable; station = station; next = addr net node; bytes = bytes })

-- The echo request and its reply, where each station asks for each next station: the routers are stations 0 and 1, the node
-- on the first cable is station 2, and the printer is station 3.
abbrev pub resolved_echo : List Entry
resolved_echo =
    Sent 2 (echo_request 0) ∷ held 0 0 2 10 1 (echo_request 0) ∷ asking 1 0 2 5 10 7 1
    ∷ Took 1 0 ∷ telling 2 0 0 1 10 1 5 7
    ∷ Took 2 2 ∷ framed 0 0 2 1 (echo_request 0)
    ∷ Took 0 0 ∷ held 3 1 0 20 2 (echo_request 4) ∷ asking 4 1 0 2 20 1 2
    ∷ Took 4 1 ∷ telling 5 1 1 3 20 2 2 1
    ∷ Took 5 0 ∷ framed 3 1 0 3 (echo_request 4)
    ∷ Took 3 1 ∷ Reached 2 1 how.Held (echo_request 0) ∷ held 6 2 1 30 5 (echo_request 8) ∷ asking 7 2 1 4 30 1 5
    ∷ Took 7 3 ∷ telling 8 2 3 6 30 5 4 1
    ∷ Took 8 1 ∷ framed 6 2 1 6 (echo_request 8)
    ∷ Took 6 3 ∷ Sent 3 (echo_reply 0) ∷ held 9 2 3 30 1 (echo_reply 0) ∷ asking 10 2 3 6 30 5 1
    ∷ Took 10 1 ∷ telling 11 2 1 4 30 1 6 5
    ∷ Took 11 3 ∷ framed 9 2 3 4 (echo_reply 0)
    ∷ Took 9 1 ∷ held 12 1 1 20 1 (echo_reply 4) ∷ asking 13 1 1 3 20 2 1
    ∷ Took 13 0 ∷ telling 14 1 0 2 20 1 3 2
    ∷ Took 14 1 ∷ framed 12 1 1 2 (echo_reply 4)
    ∷ Took 12 0 ∷ Reached 0 0 how.Held (echo_reply 0) ∷ held 15 0 0 10 7 (echo_reply 8) ∷ asking 16 0 0 1 10 1 7
    ∷ Took 16 2 ∷ telling 17 0 2 5 10 7 1 1
    ∷ Took 17 0 ∷ framed 15 0 0 5 (echo_reply 8)
    ∷ Took 15 2 ∷ []

-- A datagram to 10.9, an address that no station has: the first router holds it.
abbrev pub resolved_to_nobody : List Entry
resolved_to_nobody =
    Sent 2 (plain 0 10 9) ∷ held 0 0 2 10 1 (plain 0 10 9) ∷ asking 1 0 2 5 10 7 1
    ∷ Took 1 0 ∷ telling 2 0 0 1 10 1 5 7
    ∷ Took 2 2 ∷ framed 0 0 2 1 (plain 0 10 9)
    ∷ Took 0 0 ∷ Reached 0 0 how.Held (plain 0 10 9) ∷ held 3 0 0 10 9 (plain 4 10 9) ∷ asking 4 0 0 1 10 1 9
    ∷ Took 4 2 ∷ []

-- The node sends the echo request seventeen times before its router answers: it holds sixteen of them, and the oldest is
-- given up.
abbrev pub full_ring : List Entry
full_ring =
    Sent 2 (echo_request 0) ∷ held 0 0 2 10 1 (echo_request 0) ∷ asking 1 0 2 5 10 7 1
    ∷ Sent 2 (echo_request 0) ∷ held 2 0 2 10 1 (echo_request 0)
    ∷ Sent 2 (echo_request 0) ∷ held 3 0 2 10 1 (echo_request 0)
    ∷ Sent 2 (echo_request 0) ∷ held 4 0 2 10 1 (echo_request 0)
    ∷ Sent 2 (echo_request 0) ∷ held 5 0 2 10 1 (echo_request 0)
    ∷ Sent 2 (echo_request 0) ∷ held 6 0 2 10 1 (echo_request 0)
    ∷ Sent 2 (echo_request 0) ∷ held 7 0 2 10 1 (echo_request 0)
    ∷ Sent 2 (echo_request 0) ∷ held 8 0 2 10 1 (echo_request 0)
    ∷ Sent 2 (echo_request 0) ∷ held 9 0 2 10 1 (echo_request 0)
    ∷ Sent 2 (echo_request 0) ∷ held 10 0 2 10 1 (echo_request 0)
    ∷ Sent 2 (echo_request 0) ∷ held 11 0 2 10 1 (echo_request 0)
    ∷ Sent 2 (echo_request 0) ∷ held 12 0 2 10 1 (echo_request 0)
    ∷ Sent 2 (echo_request 0) ∷ held 13 0 2 10 1 (echo_request 0)
    ∷ Sent 2 (echo_request 0) ∷ held 14 0 2 10 1 (echo_request 0)
    ∷ Sent 2 (echo_request 0) ∷ held 15 0 2 10 1 (echo_request 0)
    ∷ Sent 2 (echo_request 0) ∷ held 16 0 2 10 1 (echo_request 0)
    ∷ Sent 2 (echo_request 0) ∷ held 17 0 2 10 1 (echo_request 0) ∷ Lost 0 ∷ []

-- The response of the router releases the sixteen datagrams that are still held, oldest first.
abbrev pub ring_released : List Entry
ring_released =
    full_ring ++ Took 1 0 ∷ telling 18 0 0 1 10 1 5 7
    ∷ Took 18 2
    ∷ framed 2 0 2 1 (echo_request 0) ∷ framed 3 0 2 1 (echo_request 0)
    ∷ framed 4 0 2 1 (echo_request 0) ∷ framed 5 0 2 1 (echo_request 0)
    ∷ framed 6 0 2 1 (echo_request 0) ∷ framed 7 0 2 1 (echo_request 0)
    ∷ framed 8 0 2 1 (echo_request 0) ∷ framed 9 0 2 1 (echo_request 0)
    ∷ framed 10 0 2 1 (echo_request 0) ∷ framed 11 0 2 1 (echo_request 0)
    ∷ framed 12 0 2 1 (echo_request 0) ∷ framed 13 0 2 1 (echo_request 0)
    ∷ framed 14 0 2 1 (echo_request 0) ∷ framed 15 0 2 1 (echo_request 0)
    ∷ framed 16 0 2 1 (echo_request 0) ∷ framed 17 0 2 1 (echo_request 0) ∷ []

-- The same request once more, and its reply: no station has to ask.
abbrev pub echo_again : List Entry
echo_again =
    Sent 2 (echo_request 0) ∷ framed 18 0 2 1 (echo_request 0)
    ∷ Took 18 0 ∷ framed 19 1 0 3 (echo_request 4)
    ∷ Took 19 1 ∷ Reached 2 1 how.Station (echo_request 0) ∷ framed 20 2 1 6 (echo_request 8)
    ∷ Took 20 3 ∷ Sent 3 (echo_reply 0) ∷ framed 21 2 3 4 (echo_reply 0)
    ∷ Took 21 1 ∷ framed 22 1 1 2 (echo_reply 4)
    ∷ Took 22 0 ∷ Reached 0 0 how.Station (echo_reply 0) ∷ framed 23 0 0 5 (echo_reply 8)
    ∷ Took 23 2 ∷ []

-- The plain transcript of the echo: each frame stands where its datagram was held.
abbrev pub plain_echo : List Entry
plain_echo =
    Sent 2 (echo_request 0) ∷ framed 0 0 2 1 (echo_request 0)
    ∷ Took 0 0 ∷ framed 3 1 0 3 (echo_request 4)
    ∷ Took 3 1 ∷ Reached 2 1 how.Station (echo_request 0) ∷ framed 6 2 1 6 (echo_request 8)
    ∷ Took 6 3 ∷ Sent 3 (echo_reply 0) ∷ framed 9 2 3 4 (echo_reply 0)
    ∷ Took 9 1 ∷ framed 12 1 1 2 (echo_reply 4)
    ∷ Took 12 0 ∷ Reached 0 0 how.Station (echo_reply 0) ∷ framed 15 0 0 5 (echo_reply 8)
    ∷ Took 15 2 ∷ []
