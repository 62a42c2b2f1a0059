-- Transcripts that are not legal where addresses are resolved.
use Rattle.std.specs.Prelude.{List, [], ◌∷◌, ◌++◌, take}
use Rattle.cable_model.specs.declared.entry.How.TheVariants as how
use Rattle.cable_model.specs.Transcript.{Entry, Lost, Reached, Sent, Took}
use Rattle.legal_runs.specs.Example.{echo, echo_reply, echo_request, framed, plain}
use Rattle.resolved_runs.specs.Example.{asking, full_ring, held, resolved_echo, ring_released, telling}

-- A datagram to the router itself reaches the cable once more when it is released.
abbrev pub reached_again : List Entry
reached_again =
    Sent 2 (plain 0 10 1) ∷ Reached 0 2 how.Held (plain 0 10 1) ∷ held 0 0 2 10 1 (plain 0 10 1) ∷ asking 1 0 2 5 10 7 1
    ∷ Took 1 0 ∷ telling 2 0 0 1 10 1 5 7
    ∷ Took 2 2 ∷ Reached 0 2 how.Station (plain 0 10 1) ∷ framed 0 0 2 1 (plain 0 10 1) ∷ []

-- The node asks again for the address of its router, for which it holds a datagram already.
abbrev pub asked_for_each : List Entry
asked_for_each =
    take 3 resolved_echo ++ Sent 2 (echo_request 0) ∷ held 2 0 2 10 1 (echo_request 0) ∷ asking 3 0 2 5 10 7 1 ∷ []

-- Where every neighbour is mapped, the printer answers a request for 30.9, which isn't its address.
abbrev pub answered_for_another : List Entry
answered_for_another =
    Sent 2 (plain 0 30 9) ∷ framed 0 0 2 1 (plain 0 30 9)
    ∷ Took 0 0 ∷ framed 1 1 0 3 (plain 4 30 9)
    ∷ Took 1 1 ∷ Reached 2 1 how.Held (plain 0 30 9) ∷ held 2 2 1 30 9 (plain 8 30 9) ∷ asking 3 2 1 4 30 1 9
    ∷ Took 3 3 ∷ telling 4 2 3 6 30 9 4 1 ∷ []

-- A response releases one of the two datagrams that are held for its source.
abbrev pub one_released : List Entry
one_released =
    take 3 resolved_echo ++ Sent 2 (echo_request 0) ∷ held 2 0 2 10 1 (echo_request 0)
    ∷ Took 1 0 ∷ telling 3 0 0 1 10 1 5 7
    ∷ Took 3 2 ∷ framed 0 0 2 1 (echo_request 0) ∷ []

-- The frame of a datagram that was held has a new stamp.
abbrev pub new_stamp : List Entry
new_stamp = take 6 resolved_echo ++ framed 3 0 2 1 (echo_request 0) ∷ []

-- A datagram that was held is put twice.
abbrev pub put_twice : List Entry
put_twice = take 7 resolved_echo ++ framed 0 0 2 1 (echo_request 0) ∷ []

-- The datagram that was given up is released with the others.
abbrev pub given_up_put : List Entry
given_up_put = take 39 ring_released ++ framed 0 0 2 1 (echo_request 0) ∷ []

-- The node holds a datagram for its router, though it has a mapping.
abbrev pub held_though_mapped : List Entry
held_though_mapped = take 3 resolved_echo

-- The node puts a datagram for its router, though it has no mapping.
abbrev pub put_unmapped : List Entry
put_unmapped = take 2 echo

-- The second oldest datagram of a full ring is given up.
abbrev pub second_given_up : List Entry
second_given_up = take 35 full_ring ++ Lost 2 ∷ []

-- The node sends its request twice.
abbrev pub asked_again : List Entry
asked_again = take 3 resolved_echo ++ asking 2 0 2 5 10 7 1 ∷ []

-- The second router, which took a request of the first one, uses that request as a mapping.
abbrev pub learnt_from_request : List Entry
learnt_from_request = take 31 resolved_echo ++ framed 12 1 1 2 (echo_reply 4) ∷ []
