-- A request for three parts, and its response packets.
use Rattle.std.specs.Prelude.{ℕ, false, List, [], ◌∷◌}
use Rattle.at_base.specs.declared.address.Addr.{Addr}
use Rattle.atp.specs.declared.ask.Ask.{Ask}
use Rattle.atp.specs.declared.ask.Peer.{Peer}
use Rattle.atp.specs.Complete.{Step, Came, Sent, Tick}
use Rattle.atp.specs.Packets.{AtpPacket}

-- node 1 of network 10
abbrev pub server_address : Addr
server_address = record { net = 10; node = 1 }

-- socket 6 of that node, which the request goes to
abbrev pub server : Peer
server = record { addr = server_address; socket = 6 }

-- socket 7 of that node, which the request doesn't go to
abbrev pub stranger : Peer
stranger = record { addr = server_address; socket = 7 }

-- a request for three parts
abbrev pub three_parts : Ask
three_parts = record {
  to = server_address;
  socket = 6;
  parts = 3;
  exactly_once = false;
  release = 0;
  user = 8 ∷ 0 ∷ 0 ∷ 1 ∷ [];
  payload = [];
  every = 2;
  tries = 3;
}

-- a response packet of transaction 1, with one byte of data
abbrev pub response : ℕ → ℕ → ℕ → AtpPacket
response control part byte = record { control = control; part = part; id = 1; user = 8 ∷ 0 ∷ 0 ∷ 1 ∷ []; payload = byte ∷ [] }

-- Steps in which part 1 comes first, marked as the end; part 1 again, and part 0 from another socket, change nothing;
-- part 0 from the right socket completes the response, so a part 2 after it is late.
abbrev pub steps : List Step
steps =
    Sent ∷ Came server (response 0x90 1 11) ∷ Tick ∷ Came server (response 0x80 1 99) ∷ Came stranger (response 0x80 0 98)
    ∷ Came server (response 0x80 0 10) ∷ Came server (response 0x80 2 12) ∷ []

-- the packets that are accepted in these steps
abbrev pub heard : List AtpPacket
heard = response 0x90 1 11 ∷ response 0x80 1 99 ∷ response 0x80 0 10 ∷ []
