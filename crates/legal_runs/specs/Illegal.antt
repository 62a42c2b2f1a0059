-- Transcripts that are not legal for the internet of three cables.
use Rattle.std.specs.Prelude.{ℕ, List, [], ◌∷◌}
use Rattle.station.specs.declared.output.DropCause.TheVariants.{HopLimit, NoRoute}
use Rattle.cable_model.specs.declared.entry.How.TheVariants as how
use Rattle.station.specs.declared.heard.Kind.TheVariants.{Ddp}
use Rattle.cable_model.specs.Transcript.{Dropped, Entry, Sent, Put, Took, Reached}
use Rattle.legal_runs.specs.Example.{echo_request, framed, plain}
use Rattle.at_base.specs.Multicast.{all_hw}
use Rattle.legal_runs.specs.LookupExample.{blue, blue_lookup, blue_request, to_blue}

-- A datagram that nobody sent reached a cable.
abbrev pub reached_alone : List Entry
reached_alone = Reached 2 1 how.Station (echo_request 0) ∷ []

-- A datagram that is under way reached a cable other than its destination's.
abbrev pub reached_elsewhere : List Entry
reached_elsewhere = Sent 2 (echo_request 0) ∷ framed 0 0 2 1 (echo_request 0) ∷ Reached 1 2 how.Station (echo_request 0) ∷ []

-- A datagram that is under way was also dropped.
abbrev pub dropped_too : List Entry
dropped_too = Sent 2 (echo_request 0) ∷ framed 0 0 2 1 (echo_request 0) ∷ Dropped 0 NoRoute (echo_request 0) ∷ []

-- The first router is said to have put a datagram on the last cable, which it isn't on.
abbrev pub reached_from_afar : List Entry
reached_from_afar =
    Sent 2 (echo_request 0) ∷ framed 0 0 2 1 (echo_request 0) ∷ Took 0 0 ∷ Reached 2 0 how.Station (echo_request 0) ∷ []

-- The node puts a datagram on a cable that it isn't on.
abbrev pub put_from_afar : List Entry
put_from_afar = Sent 2 (echo_request 0) ∷ framed 0 1 2 3 (echo_request 0) ∷ []

-- A datagram is under way to the first router with hop count 14.
abbrev pub many_hops : List Entry
many_hops = Sent 2 (echo_request 0) ∷ framed 0 0 2 1 (echo_request 56) ∷ []

-- A datagram from 10.7 to 50.9, a network that no cable has.
abbrev pub to_unlisted : List ℕ
to_unlisted = plain 0 50 9

-- A datagram to an unlisted network is neither under way nor dropped.
abbrev pub gone : List Entry
gone = Sent 2 to_unlisted ∷ framed 0 0 2 1 to_unlisted ∷ Took 0 0 ∷ []

-- A datagram to an unlisted network is under way and reached this cable.
abbrev pub reached_unlisted : ℕ → List Entry
reached_unlisted cable = Sent 2 to_unlisted ∷ framed 0 0 2 1 to_unlisted ∷ Reached cable 2 how.Station to_unlisted ∷ []

-- A datagram to an unlisted network is dropped because of its hop count.
abbrev pub out_of_hops : List Entry
out_of_hops = Sent 2 to_unlisted ∷ framed 0 0 2 1 to_unlisted ∷ Took 0 0 ∷ Dropped 0 HopLimit to_unlisted ∷ []

-- A datagram to an unlisted network is dropped twice.
abbrev pub dropped_twice : List Entry
dropped_twice =
    Sent 2 to_unlisted ∷ framed 0 0 2 1 to_unlisted ∷ Took 0 0 ∷ Dropped 0 NoRoute to_unlisted ∷ Dropped 0 NoRoute to_unlisted ∷ []

-- A datagram to an unlisted network is dropped, and is under way.
abbrev pub dropped_on_its_way : List Entry
dropped_on_its_way = Sent 2 to_unlisted ∷ framed 0 0 2 1 to_unlisted ∷ Dropped 0 NoRoute to_unlisted ∷ []

-- The second router takes a frame on a cable that it isn't on.
abbrev pub taken_from_afar : List Entry
taken_from_afar = Sent 2 (echo_request 0) ∷ framed 0 0 2 1 (echo_request 0) ∷ Took 0 1 ∷ []

-- The first router takes a frame that was never put.
abbrev pub taken_unput : List Entry
taken_unput = Took 0 0 ∷ []

-- The first router takes one frame twice.
abbrev pub taken_twice : List Entry
taken_twice =
    Sent 2 (echo_request 0) ∷ framed 0 0 2 1 (echo_request 0) ∷ Took 0 0 ∷ framed 1 1 0 3 (echo_request 4)
    ∷ Took 0 0 ∷ framed 2 1 0 3 (echo_request 4) ∷ []

-- A datagram from 10.7 to all nodes of network 10, with this first byte.
abbrev pub to_all : ℕ → List ℕ
to_all first = plain first 10 255

-- The first router passes on a datagram that it heard in a broadcast frame.
abbrev pub passed_from_all : List Entry
passed_from_all =
    Sent 2 (to_all 0) ∷ Reached 0 2 how.All (to_all 0)
    ∷ Put (record { stamp = 0; cable = 0; sender = 2; to = all_hw; kind = Ddp; bytes = to_all 0 })
    ∷ Took 0 0 ∷ framed 1 1 0 3 (to_all 4) ∷ []

-- The first router puts a datagram for the last cable on the cable on which it heard it, for its own address there.
abbrev pub passed_back : List Entry
passed_back = Sent 2 (echo_request 0) ∷ framed 0 0 2 1 (echo_request 0) ∷ Took 0 0 ∷ framed 1 0 0 1 (echo_request 4) ∷ []

-- The first router passes a datagram on with its hop count unchanged.
abbrev pub same_hops : List Entry
same_hops = Sent 2 (echo_request 0) ∷ framed 0 0 2 1 (echo_request 0) ∷ Took 0 0 ∷ framed 1 1 0 3 (echo_request 0) ∷ []

-- The first router sends a lookup on a cable that doesn't list the zone.
abbrev pub looked_elsewhere : List Entry
looked_elsewhere =
    Sent 2 blue_request ∷ Reached 0 2 how.Station blue_request ∷ framed 0 0 2 1 blue_request
    ∷ Took 0 0 ∷ Sent 0 (blue_lookup 10) ∷ to_blue 1 0 0 (blue_lookup 10) ∷ []

-- A forward request from 20.2 socket 2 to any router of network 10, whose cable doesn't list the zone.
abbrev pub red_forward : List ℕ
red_forward = 0 ∷ 29 ∷ 0 ∷ 0 ∷ 0 ∷ 10 ∷ 0 ∷ 20 ∷ 0 ∷ 2 ∷ 2 ∷ 2 ∷ 2 ∷ blue 65

-- A forward request for a cable that doesn't list the zone is under way.
abbrev pub forward_elsewhere : List Entry
forward_elsewhere = Sent 1 red_forward ∷ framed 0 1 1 2 red_forward ∷ []

-- A request for names is neither taken nor still to be taken.
abbrev pub asked_alone : List Entry
asked_alone = Sent 2 blue_request ∷ Reached 0 2 how.Station blue_request ∷ []

-- The first router takes a request for names and sends no lookup.
abbrev pub looked_nowhere : List Entry
looked_nowhere = Sent 2 blue_request ∷ Reached 0 2 how.Station blue_request ∷ framed 0 0 2 1 blue_request ∷ Took 0 0 ∷ []
