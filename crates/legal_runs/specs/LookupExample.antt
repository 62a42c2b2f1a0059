-- A request for names over three cables: the node on the first cable asks its router for all names in the zone blue,
-- and the printer on the last cable replies. Inside AppleTalk, the chapter on NBP.
use Rattle.std.specs.Prelude.{ℕ, List, [], ◌∷◌, ◌++◌, codes}
use Rattle.cable_model.specs.declared.entry.How.TheVariants as how
use Rattle.station.specs.declared.heard.Kind.TheVariants.{Ddp}
use Rattle.cable_model.specs.Transcript.{Entry, Sent, Put, Took, Reached}
use Rattle.legal_runs.specs.Example.{framed}
use Rattle.at_base.specs.Multicast.{group_hw}

-- An NBP request with this first byte (function and number of tuples): ID 1, replies to 10.7 socket 253, for =:=@blue.
abbrev pub blue : ℕ → List ℕ
blue head = head ∷ 1 ∷ 0 ∷ 10 ∷ 7 ∷ 253 ∷ 0 ∷ 1 ∷ 61 ∷ 1 ∷ 61 ∷ 4 ∷ codes "blue"

-- The node's broadcast request from 10.7 socket 253 to this socket of 10.1, with this DDP type.
abbrev pub blue_to : ℕ → ℕ → List ℕ
blue_to socket kind = 0 ∷ 29 ∷ 0 ∷ 0 ∷ 0 ∷ 10 ∷ 0 ∷ 10 ∷ 1 ∷ 7 ∷ socket ∷ 253 ∷ kind ∷ blue 17

-- The node's broadcast request to socket 2, with DDP type 2.
abbrev pub blue_request : List ℕ
blue_request = blue_to 2 2

-- A lookup to all nodes of a cable, by the router whose address there is node 1 of this network.
abbrev pub blue_lookup : ℕ → List ℕ
blue_lookup net = 0 ∷ 29 ∷ 0 ∷ 0 ∷ 0 ∷ 0 ∷ 0 ∷ net ∷ 255 ∷ 1 ∷ 2 ∷ 2 ∷ 2 ∷ blue 33

-- The first router's forward request, from 20.1 socket 2 to any router of network 30.
abbrev pub blue_forward : List ℕ
blue_forward = 0 ∷ 29 ∷ 0 ∷ 0 ∷ 0 ∷ 30 ∷ 0 ∷ 20 ∷ 0 ∷ 1 ∷ 2 ∷ 2 ∷ 2 ∷ blue 65

-- The printer's reply to 10.7 socket 253, with this first byte, which is 4 times the hop count.
abbrev pub lab_reply : ℕ → List ℕ
lab_reply first =
    first ∷ 41 ∷ 0 ∷ 0 ∷ 0 ∷ 10 ∷ 0 ∷ 30 ∷ 7 ∷ 5 ∷ 253 ∷ 2 ∷ 2 ∷ 49 ∷ 1 ∷ 0 ∷ 30 ∷ 5 ∷ 129 ∷ 1 ∷ 3
    ∷ (codes "lab" ++ 11 ∷ (codes "LaserWriter" ++ 4 ∷ codes "Blue"))

-- A frame to the multicast address of the zone blue, which is group 118.
abbrev pub to_blue : ℕ → ℕ → ℕ → List ℕ → Entry
to_blue stamp cable sender bytes =
    Put (record { stamp = stamp; cable = cable; sender = sender; to = group_hw 118; kind = Ddp; bytes = bytes })

-- The whole exchange: the request ends at the first router, which sends a lookup on the second cable and a forward
-- request to the second router, which sends a lookup on the third cable.
abbrev pub blue_names : List Entry
blue_names =
    Sent 2 blue_request ∷ Reached 0 2 how.Station blue_request ∷ framed 0 0 2 1 blue_request
    ∷ Took 0 0 ∷ Sent 0 (blue_lookup 20) ∷ to_blue 1 1 0 (blue_lookup 20) ∷ Sent 0 blue_forward ∷ framed 2 1 0 3 blue_forward
    ∷ Took 2 1 ∷ Reached 2 1 how.Own blue_forward ∷ Sent 1 (blue_lookup 30) ∷ to_blue 3 2 1 (blue_lookup 30)
    ∷ Took 3 3 ∷ Sent 3 (lab_reply 0) ∷ framed 4 2 3 4 (lab_reply 0)
    ∷ Took 4 1 ∷ framed 5 1 1 2 (lab_reply 4)
    ∷ Took 5 0 ∷ Reached 0 0 how.Station (lab_reply 0) ∷ framed 6 0 0 5 (lab_reply 8)
    ∷ Took 6 2 ∷ []
