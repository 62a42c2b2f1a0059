-- Transcripts over three cables: the node on the first cable sends an echo request to the printer on the last, which
-- replies; and datagrams that end in other ways. Inside AppleTalk, the chapters on DDP and AEP.
use Rattle.std.specs.Prelude.{ℕ, List, [], ◌∷◌}
use Rattle.audit.specs.Example.{hardware}
use Rattle.station.specs.declared.output.DropCause.TheVariants.{NoRoute}
use Rattle.cable_model.specs.declared.entry.How.TheVariants as how
use Rattle.station.specs.declared.heard.Kind.TheVariants.{Ddp}
use Rattle.cable_model.specs.Transcript.{Dropped, Entry, Sent, Put, Took, Reached}
use Rattle.at_base.specs.Multicast.{all_hw}

-- The data of the echo request after its first byte: "ping".
abbrev pub ping : List ℕ
ping = 112 ∷ 105 ∷ 110 ∷ 103 ∷ []

-- The echo request from 10.7 socket 128 to 30.5 socket 4, with this first byte, which is 4 times the hop count.
abbrev pub echo_request : ℕ → List ℕ
echo_request first = first ∷ 18 ∷ 0 ∷ 0 ∷ 0 ∷ 30 ∷ 0 ∷ 10 ∷ 5 ∷ 7 ∷ 4 ∷ 128 ∷ 4 ∷ 1 ∷ ping

-- The echo reply from 30.5 socket 4 to 10.7 socket 128, with this first byte, which is 4 times the hop count.
abbrev pub echo_reply : ℕ → List ℕ
echo_reply first = first ∷ 18 ∷ 0 ∷ 0 ∷ 0 ∷ 10 ∷ 0 ∷ 30 ∷ 7 ∷ 5 ∷ 128 ∷ 4 ∷ 4 ∷ 2 ∷ ping

-- A frame with this stamp, put on the cable by this sender, for the hardware address 02:00:00:00:00 followed by this
-- byte.
abbrev pub framed : ℕ → ℕ → ℕ → ℕ → List ℕ → Entry
framed stamp cable sender byte bytes =
    Put (record { stamp = stamp; cable = cable; sender = sender; to = hardware byte; kind = Ddp; bytes = bytes })

-- The echo request and its reply: the routers are stations 0 and 1, the node on the first cable is station 2, and the
-- printer is station 3.
abbrev pub echo : List Entry
echo =
    Sent 2 (echo_request 0) ∷ framed 0 0 2 1 (echo_request 0)
    ∷ Took 0 0 ∷ framed 1 1 0 3 (echo_request 4)
    ∷ Took 1 1 ∷ Reached 2 1 how.Station (echo_request 0) ∷ framed 2 2 1 6 (echo_request 8)
    ∷ Took 2 3 ∷ Sent 3 (echo_reply 0) ∷ framed 3 2 3 4 (echo_reply 0)
    ∷ Took 3 1 ∷ framed 4 1 1 2 (echo_reply 4)
    ∷ Took 4 0 ∷ Reached 0 0 how.Station (echo_reply 0) ∷ framed 5 0 0 5 (echo_reply 8)
    ∷ Took 5 2 ∷ []

-- ---- Other ends

-- A datagram without data from 10.7 to this network and node, with this first byte, which is 4 times the hop count.
abbrev pub plain : ℕ → ℕ → ℕ → List ℕ
plain first net node = first ∷ 13 ∷ 0 ∷ 0 ∷ 0 ∷ net ∷ 0 ∷ 10 ∷ node ∷ 7 ∷ 128 ∷ 128 ∷ 128 ∷ []

-- The transcript of a datagram to 10.9, an address that no station has.
abbrev pub to_nobody : List Entry
to_nobody = Sent 2 (plain 0 10 9) ∷ framed 0 0 2 1 (plain 0 10 9) ∷ Took 0 0 ∷ Reached 0 0 how.Absent (plain 0 10 9) ∷ []

-- The transcript of a datagram to all nodes of network 30.
abbrev pub to_everybody : List Entry
to_everybody =
    Sent 2 (plain 0 30 255) ∷ framed 0 0 2 1 (plain 0 30 255) ∷ Took 0 0 ∷ framed 1 1 0 3 (plain 4 30 255)
    ∷ Took 1 1 ∷ Reached 2 1 how.All (plain 0 30 255)
    ∷ Put (record { stamp = 2; cable = 2; sender = 1; to = all_hw; kind = Ddp; bytes = plain 8 30 255 })
    ∷ Took 2 3 ∷ []

-- The transcript of a datagram to network 50, which no cable has.
abbrev pub to_nowhere : List Entry
to_nowhere = Sent 2 (plain 0 50 9) ∷ framed 0 0 2 1 (plain 0 50 9) ∷ Took 0 0 ∷ Dropped 0 NoRoute (plain 0 50 9) ∷ []
