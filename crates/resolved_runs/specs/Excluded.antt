-- Transcripts that break the laws of transcripts with resolution, each in one of their words.
use Rattle.std.specs.Prelude.{ℕ, List, [], ◌∷◌, ◌++◌, take}
use Rattle.at_base.specs.Multicast.{all_hw}
use Rattle.audit.specs.Example.{hardware}
use Rattle.station.specs.declared.heard.Kind.TheVariants.{Aarp, Ddp}
use Rattle.station.specs.declared.output.DropCause.TheVariants.{HopLimit, NoRoute}
use Rattle.cable_model.specs.declared.entry.How.TheVariants as how
use Rattle.cable_model.specs.Transcript.{Dropped, Entry, Lost, Put, Reached, Sent, Took}
use Rattle.legal_runs.specs.Example.{echo_request, framed, plain}
use Rattle.legal_runs.specs.Illegal.{red_forward, to_unlisted}
use Rattle.legal_runs.specs.LookupExample.{blue_forward, blue_lookup, blue_request, to_blue}
use Rattle.legal_runs.specs.Requests.{key_in, request}
use Rattle.resolved_runs.specs.Example.{asking, full_ring, held, packet_bytes, resolved_echo, resolved_to_nobody, telling}

-- ---- Conservation

-- The node sends the echo request and holds it for its router.
abbrev pub one_held : List Entry
one_held = Sent 2 (echo_request 0) ∷ held 0 0 2 10 1 (echo_request 0) ∷ []

-- A datagram is neither held nor under way, has reached no cable and wasn't given up.
abbrev pub vanished : List Entry
vanished = Sent 2 (echo_request 0) ∷ []

-- A datagram is held, and under way in a frame of another stamp.
abbrev pub held_and_put : List Entry
held_and_put = one_held ++ framed 1 0 2 1 (echo_request 0) ∷ []

-- A datagram was given up, and is held once more.
abbrev pub given_up_and_held : List Entry
given_up_and_held = one_held ++ Lost 0 ∷ held 1 0 2 10 1 (echo_request 0) ∷ []

-- A datagram was given up, and has reached its cable.
abbrev pub given_up_and_reached : List Entry
given_up_and_reached = one_held ++ Lost 0 ∷ Reached 2 1 how.Station (echo_request 0) ∷ []

-- A datagram that is held reached another cable than its destination's.
abbrev pub held_and_elsewhere : List Entry
held_and_elsewhere = one_held ++ Reached 1 2 how.Held (echo_request 0) ∷ []

-- A datagram to a listed network that is held was dropped.
abbrev pub held_and_dropped : List Entry
held_and_dropped = one_held ++ Dropped 0 NoRoute (echo_request 0) ∷ []

-- The node sends a datagram to a network that no cable has, and holds it for its router.
abbrev pub unlisted_held : List Entry
unlisted_held = Sent 2 to_unlisted ∷ held 0 0 2 10 1 to_unlisted ∷ []

-- A datagram to an unlisted network is held and was dropped.
abbrev pub unlisted_and_dropped : List Entry
unlisted_and_dropped = unlisted_held ++ Dropped 0 NoRoute to_unlisted ∷ []

-- A datagram to an unlisted network that is held reached this cable.
abbrev pub unlisted_and_reached : ℕ → List Entry
unlisted_and_reached cable = unlisted_held ++ Reached cable 2 how.Held to_unlisted ∷ []

-- A datagram was dropped because of its hop count.
abbrev pub unlisted_out_of_hops : List Entry
unlisted_out_of_hops = Sent 2 to_unlisted ∷ Dropped 0 HopLimit to_unlisted ∷ []

-- ---- Hops left

-- A datagram is held for the first router with hop count 14: two routers remain.
abbrev pub held_with_hops : List Entry
held_with_hops = Sent 2 (echo_request 0) ∷ held 0 0 2 10 1 (echo_request 56) ∷ []

-- ---- Carriage

-- The first router, which isn't on the last cable, is said to have reached it with a datagram that was released.
abbrev pub released_from_afar : List Entry
released_from_afar = take 8 resolved_echo ++ Reached 2 0 how.Held (echo_request 0) ∷ []

-- The node asks on a cable that it isn't on.
abbrev pub asked_from_afar : List Entry
asked_from_afar = asking 0 1 2 5 10 7 1 ∷ []

-- A datagram that no router carried is released with hop count 1.
abbrev pub released_with_hops : List Entry
released_with_hops = take 6 resolved_echo ++ framed 0 0 2 1 (echo_request 4) ∷ []

-- The second router takes a request on a cable that it isn't on.
abbrev pub request_taken_from_afar : List Entry
request_taken_from_afar = take 3 resolved_echo ++ Took 1 1 ∷ []

-- The first router holds a datagram for the last cable on the cable from which it came.
abbrev pub held_back : List Entry
held_back = take 8 resolved_echo ++ held 3 0 0 10 7 (echo_request 4) ∷ []

-- ---- Lookups

-- The key of the request for names in zone blue.
abbrev pub blue_key : List ℕ
blue_key = key_in (request blue_request)

-- A request for names is held, and is pending in a frame of another stamp.
abbrev pub request_held_and_put : List Entry
request_held_and_put =
    Sent 2 blue_request ∷ Reached 0 2 how.Held blue_request ∷ held 0 0 2 10 1 blue_request ∷ framed 1 0 2 1 blue_request ∷ []

-- The first router takes the request for names and looks it up on the second cable, but sends no forward request for the
-- last one.
abbrev pub not_forwarded : List Entry
not_forwarded =
    Sent 2 blue_request ∷ Reached 0 2 how.Station blue_request ∷ framed 0 0 2 1 blue_request
    ∷ Took 0 0 ∷ Sent 0 (blue_lookup 20) ∷ to_blue 1 1 0 (blue_lookup 20) ∷ []

-- A forward request for the last cable is held, and is under way in a frame of another stamp.
abbrev pub forward_held_and_put : List Entry
forward_held_and_put = not_forwarded ++ Sent 0 blue_forward ∷ held 2 1 0 20 2 blue_forward ∷ framed 3 1 0 3 blue_forward ∷ []

-- A forward request is held for a cable that doesn't list its zone.
abbrev pub forward_held_elsewhere : List Entry
forward_held_elsewhere = Sent 1 red_forward ∷ held 0 1 1 20 1 red_forward ∷ []

-- It is given up.
abbrev pub forward_given_up_elsewhere : List Entry
forward_given_up_elsewhere = forward_held_elsewhere ++ Lost 0 ∷ []

-- ---- Given up

-- A request for names is given up while its node holds it.
abbrev pub request_given_up : List Entry
request_given_up = Sent 2 blue_request ∷ held 0 0 2 10 1 blue_request ∷ Lost 0 ∷ []

-- A datagram to the router's own address is given up.
abbrev pub own_given_up : List Entry
own_given_up = Sent 2 (plain 0 10 1) ∷ held 0 0 2 10 1 (plain 0 10 1) ∷ Lost 0 ∷ []

-- ---- Asked for

-- Two datagrams are held with one stamp.
abbrev pub one_stamp : List Entry
one_stamp = one_held ++ held 0 0 2 10 1 (plain 0 10 1) ∷ []

-- The node sends a datagram to its router twice, and one Hold stands twice.
abbrev pub held_twice : List Entry
held_twice =
    Sent 2 (plain 0 10 1) ∷ Reached 0 2 how.Held (plain 0 10 1) ∷ held 0 0 2 10 1 (plain 0 10 1) ∷ asking 1 0 2 5 10 7 1
    ∷ Sent 2 (plain 0 10 1) ∷ Reached 0 2 how.Held (plain 0 10 1) ∷ held 0 0 2 10 1 (plain 0 10 1) ∷ []

-- A datagram that was released is put twice.
abbrev pub released_twice : List Entry
released_twice = take 7 resolved_echo ++ framed 0 0 2 1 (echo_request 0) ∷ []

-- The node holds a datagram, and asks for another address.
abbrev pub asked_for_another : List Entry
asked_for_another = one_held ++ asking 1 0 2 5 10 7 9 ∷ []

-- The node holds a datagram, and its router asks for its own address.
abbrev pub asked_by_another : List Entry
asked_by_another = one_held ++ asking 1 0 0 1 10 1 1 ∷ []

-- The bytes of a request are put as a datagram.
abbrev pub asked_in_a_datagram : List Entry
asked_in_a_datagram = one_held ++ framed 1 0 2 1 (packet_bytes 1 5 10 7 (0 ∷ 0 ∷ 0 ∷ 0 ∷ 0 ∷ 0 ∷ []) 1) ∷ []

-- A response tells the holder another address.
abbrev pub another_told : List Entry
another_told = one_held ++ telling 1 0 0 1 10 9 5 7 ∷ []

-- The response for which the holder waits is the second router's, which has another address.
abbrev pub told_by_another : List Entry
told_by_another = one_held ++ telling 1 0 1 1 10 1 5 7 ∷ []

-- The second router holds a datagram for the first one on the cable between them, and its request is on the first cable.
abbrev pub asked_elsewhere : List Entry
asked_elsewhere = Sent 1 (plain 0 20 1) ∷ held 0 1 1 20 1 (plain 0 20 1) ∷ asking 1 0 1 3 20 2 1 ∷ []

-- ---- Heard

-- The node sends a datagram to its router's address, and holds it.
abbrev pub own_held : List Entry
own_held = Sent 2 (plain 0 10 1) ∷ held 0 0 2 10 1 (plain 0 10 1) ∷ []

-- The router takes the datagram in a frame of another stamp than that with which it is still held.
abbrev pub heard_and_held : List Entry
heard_and_held = own_held ++ framed 1 0 2 1 (plain 0 10 1) ∷ Took 1 0 ∷ []

-- The router hears the datagram in a frame to all.
abbrev pub heard_by_all : List Entry
heard_by_all =
    Sent 2 (plain 0 10 1)
    ∷ Put (record { stamp = 0; cable = 0; sender = 2; to = all_hw; kind = Ddp; bytes = plain 0 10 1 }) ∷ Took 0 0 ∷ []

-- The router takes the datagram in an AARP frame.
abbrev pub heard_as_packet : List Entry
heard_as_packet =
    Sent 2 (plain 0 10 1)
    ∷ Put (record { stamp = 0; cable = 0; sender = 2; to = hardware 1; kind = Aarp; bytes = plain 0 10 1 }) ∷ Took 0 0 ∷ []

-- The node holds the datagram for an address that nobody has.
abbrev pub held_for_nobody : List Entry
held_for_nobody = Sent 2 (plain 0 10 1) ∷ held 0 0 2 10 9 (plain 0 10 1) ∷ []

-- The router takes a datagram for the printer, and puts nothing.
abbrev pub heard_by_another : List Entry
heard_by_another = Sent 2 (echo_request 0) ∷ framed 0 0 2 1 (echo_request 0) ∷ Took 0 0 ∷ []

-- ---- Held as often as reached, and given up

-- A datagram to 10.9, which nobody has, reached its cable once and is held twice.
abbrev pub held_there_twice : List Entry
held_there_twice = take 10 resolved_to_nobody ++ held 4 0 0 10 9 (plain 4 10 9) ∷ []

-- A datagram is given up though no other is held.
abbrev pub lost_at_once : List Entry
lost_at_once = one_held ++ Lost 0 ∷ []

-- Of sixteen datagrams the newest is given up when one more is held.
abbrev pub newest_given_up : List Entry
newest_given_up = take 35 full_ring ++ Lost 16 ∷ []

-- The oldest of sixteen is given up, but after the request that follows the further one.
abbrev pub given_up_later : List Entry
given_up_later = take 35 full_ring ++ asking 18 0 2 5 10 7 1 ∷ Lost 0 ∷ []
