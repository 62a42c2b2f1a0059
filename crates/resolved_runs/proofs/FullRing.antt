-- The transcripts of a full ring are legal, block by block.
use Rattle.std.proofs.Common.{[], refl, arith, take, drop}
use Rattle.at_base.specs.Packets.{address}
use Rattle.aarp.specs.Packets.{packet}
use Rattle.ddp.specs.Datagram.{datagram}
use Rattle.station.specs.Resolution.{packet_at}
use Rattle.legal_runs.proofs.Echo.{request_leg}
use Rattle.legal_runs.specs.Requests.{request}
use Rattle.resolved_runs.specs.Example.{asking, full_ring, ring_released, telling, unmapped}
use Rattle.resolved_runs.specs.ResolvedRuns.{Begins, Continues, IsLegalResolved, Resolves, Sends}
use Rattle.resolved_runs.proofs.Echo.{first_here, frame_in, heard, node_seat}
use Rattle.resolved_runs.proofs.Echo.{request_is_made, request_is_own}

ring_3 : IsLegalResolved unmapped (take 3 full_ring)
unfolding request datagram packet_at packet address
ring_3 = Continues [] (take 3 (drop 0 full_ring)) Begins (Sends request_leg request_is_made request_is_own)

ring_5 : IsLegalResolved unmapped (take 5 full_ring)
unfolding request datagram packet_at packet address
ring_5 = Continues (take 3 full_ring) (take 2 (drop 3 full_ring)) ring_3 (Sends request_leg request_is_made request_is_own)

ring_7 : IsLegalResolved unmapped (take 7 full_ring)
unfolding request datagram packet_at packet address
ring_7 = Continues (take 5 full_ring) (take 2 (drop 5 full_ring)) ring_5 (Sends request_leg request_is_made request_is_own)

ring_9 : IsLegalResolved unmapped (take 9 full_ring)
unfolding request datagram packet_at packet address
ring_9 = Continues (take 7 full_ring) (take 2 (drop 7 full_ring)) ring_7 (Sends request_leg request_is_made request_is_own)

ring_11 : IsLegalResolved unmapped (take 11 full_ring)
unfolding request datagram packet_at packet address
ring_11 = Continues (take 9 full_ring) (take 2 (drop 9 full_ring)) ring_9 (Sends request_leg request_is_made request_is_own)

ring_13 : IsLegalResolved unmapped (take 13 full_ring)
unfolding request datagram packet_at packet address
ring_13 = Continues (take 11 full_ring) (take 2 (drop 11 full_ring)) ring_11 (Sends request_leg request_is_made request_is_own)

ring_15 : IsLegalResolved unmapped (take 15 full_ring)
unfolding request datagram packet_at packet address
ring_15 = Continues (take 13 full_ring) (take 2 (drop 13 full_ring)) ring_13 (Sends request_leg request_is_made request_is_own)

ring_17 : IsLegalResolved unmapped (take 17 full_ring)
unfolding request datagram packet_at packet address
ring_17 = Continues (take 15 full_ring) (take 2 (drop 15 full_ring)) ring_15 (Sends request_leg request_is_made request_is_own)

ring_19 : IsLegalResolved unmapped (take 19 full_ring)
unfolding request datagram packet_at packet address
ring_19 = Continues (take 17 full_ring) (take 2 (drop 17 full_ring)) ring_17 (Sends request_leg request_is_made request_is_own)

ring_21 : IsLegalResolved unmapped (take 21 full_ring)
unfolding request datagram packet_at packet address
ring_21 = Continues (take 19 full_ring) (take 2 (drop 19 full_ring)) ring_19 (Sends request_leg request_is_made request_is_own)

ring_23 : IsLegalResolved unmapped (take 23 full_ring)
unfolding request datagram packet_at packet address
ring_23 = Continues (take 21 full_ring) (take 2 (drop 21 full_ring)) ring_21 (Sends request_leg request_is_made request_is_own)

ring_25 : IsLegalResolved unmapped (take 25 full_ring)
unfolding request datagram packet_at packet address
ring_25 = Continues (take 23 full_ring) (take 2 (drop 23 full_ring)) ring_23 (Sends request_leg request_is_made request_is_own)

ring_27 : IsLegalResolved unmapped (take 27 full_ring)
unfolding request datagram packet_at packet address
ring_27 = Continues (take 25 full_ring) (take 2 (drop 25 full_ring)) ring_25 (Sends request_leg request_is_made request_is_own)

ring_29 : IsLegalResolved unmapped (take 29 full_ring)
unfolding request datagram packet_at packet address
ring_29 = Continues (take 27 full_ring) (take 2 (drop 27 full_ring)) ring_27 (Sends request_leg request_is_made request_is_own)

ring_31 : IsLegalResolved unmapped (take 31 full_ring)
unfolding request datagram packet_at packet address
ring_31 = Continues (take 29 full_ring) (take 2 (drop 29 full_ring)) ring_29 (Sends request_leg request_is_made request_is_own)

ring_33 : IsLegalResolved unmapped (take 33 full_ring)
unfolding request datagram packet_at packet address
ring_33 = Continues (take 31 full_ring) (take 2 (drop 31 full_ring)) ring_31 (Sends request_leg request_is_made request_is_own)

pub ring_36 : IsLegalResolved unmapped full_ring
unfolding request datagram packet_at packet address
ring_36 = Continues (take 33 full_ring) (take 3 (drop 33 full_ring)) ring_33 (Sends request_leg request_is_made request_is_own)

asked_38 : IsLegalResolved unmapped (take 38 ring_released)
unfolding request datagram packet_at packet address
asked_38 = Continues full_ring (take 2 (drop 36 ring_released)) ring_36 (Resolves (heard (frame_in (asking 1 0 2 5 10 7 1)) first_here) (0, omega arith, refl) refl)

pub released_55 : IsLegalResolved unmapped ring_released
unfolding request datagram packet_at packet address
released_55 = Continues (take 38 ring_released) (drop 38 ring_released) asked_38 (Resolves (heard (frame_in (telling 18 0 0 1 10 1 5 7)) node_seat) (0, omega arith, refl) refl)
