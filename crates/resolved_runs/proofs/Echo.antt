-- The echo over three cables without mappings is legal, block by block.
use Rattle.std.proofs.Common.{ℕ, inr, false, [], ◌∷◌, Some, None, refl, sym, arith, take, drop, codes}
use Rattle.at_base.specs.Multicast.{group_of}
use Rattle.at_base.specs.Packets.{address}
use Rattle.aarp.specs.Packets.{packet}
use Rattle.ddp.specs.declared.header.Header.{Header}
use Rattle.ddp.specs.Datagram.{datagram, unsummed}
use Rattle.ddp.proofs.Shape.{bytes_laid}
use Rattle.audit.specs.Example.{addr, hardware}
use Rattle.station.specs.Resolution.{packet_at}
use Rattle.station.specs.declared.output.Next.TheVariants as next
use Rattle.cable_model.specs.Pending.{Pair}
use Rattle.cable_model.specs.Transcript.{Entry, Frame, Put}
use Rattle.cable_model.specs.declared.seat.Seat.{Seat}
use Rattle.legal_runs.proofs.ByHand.{fitting, frame, is_body, not_zero}
use Rattle.legal_runs.proofs.Echo.{request_is_made as request_is_plain, request_leg}
use Rattle.legal_runs.specs.Answers.{ByRouter, IsBody, IsMade, IsOwn, Others}
use Rattle.legal_runs.specs.Example.{echo_reply, echo_request, ping}
use Rattle.legal_runs.specs.Legs.{Leg}
use Rattle.legal_runs.specs.Requests.{request}
use Rattle.resolved_runs.specs.Example.{asking, resolved_echo, telling, unmapped}
use Rattle.resolved_runs.specs.ResolvedRuns.{Begins, Continues, IsLegalResolved, Resolves, Sends, Takes}

-- ---- The seats

abbrev pub seat : ℕ → ℕ → ℕ → ℕ → Seat
seat cable station port byte = record { cable = cable; station = station; port = port; hw = hardware byte; group = None }

abbrev pub first_here : Seat
first_here = seat 0 0 0 1

abbrev pub first_there : Seat
first_there = seat 1 0 1 2

abbrev pub second_here : Seat
second_here = seat 1 1 0 3

abbrev pub second_there : Seat
second_there = seat 2 1 1 4

abbrev pub node_seat : Seat
node_seat = record (seat 0 2 0 5) { group = Some (group_of (codes "Red")) }

abbrev pub printer_seat : Seat
printer_seat = record (seat 2 3 0 6) { group = Some (group_of (codes "Blue")) }

abbrev pub heard : Frame → Seat → Pair
heard f s = record { frame = f; seat = s }

-- The frame that an entry puts.
abbrev pub frame_in : Entry → Frame
frame_in (Put f) = f
frame_in e = frame 0 0 0 (hardware 0) []

-- ---- The legs

pub request_is_made : IsMade unmapped request_leg
request_is_made =
    record { seated = refl; whole = request_is_plain.whole; fresh = refl; goes = ByRouter (addr 10 1) 0 refl refl (not_zero 30 (omega arith)) }

pub request_is_own : IsOwn unmapped request_leg
request_is_own = record { by_node = refl; handed = inr (addr 10 1, 0, refl, refl) }

-- The printer sends its reply to its router.
abbrev pub reply_leg : Leg
reply_leg = record { station = 3; cable = 2; next = next.Station (addr 30 1); body = echo_reply 0; hops = 0 }

abbrev reply_header : Header
reply_header = record {
  summed = false;
  target = addr 10 7;
  source = addr 30 5;
  target_socket = 128;
  source_socket = 4;
  kind = 4;
}

reply_is_body : IsBody (echo_reply 0)
reply_is_body =
    is_body reply_header (2 ∷ ping) (echo_reply 0)
    (fitting reply_header (omega arith) (omega arith) (omega arith) (omega arith) (omega arith) (omega arith) (omega arith)) (omega arith)
    (sym (bytes_laid (unsummed reply_header (2 ∷ ping)))) refl

pub reply_is_made : IsMade unmapped reply_leg
reply_is_made =
    record { seated = refl; whole = reply_is_body; fresh = refl; goes = ByRouter (addr 30 1) 1 refl refl (not_zero 10 (omega arith)) }

-- ---- The blocks

pub echo_3 : IsLegalResolved unmapped (take 3 resolved_echo)
unfolding request datagram packet_at packet address
echo_3 = Continues [] (take 3 (drop 0 resolved_echo)) Begins (Sends request_leg request_is_made request_is_own)

pub echo_5 : IsLegalResolved unmapped (take 5 resolved_echo)
unfolding request datagram packet_at packet address
echo_5 = Continues (take 3 resolved_echo) (take 2 (drop 3 resolved_echo)) echo_3 (Resolves (heard (frame_in (asking 1 0 2 5 10 7 1)) first_here) (0, omega arith, refl) refl)

pub echo_7 : IsLegalResolved unmapped (take 7 resolved_echo)
unfolding request datagram packet_at packet address
echo_7 = Continues (take 5 resolved_echo) (take 2 (drop 5 resolved_echo)) echo_5 (Resolves (heard (frame_in (telling 2 0 0 1 10 1 5 7)) node_seat) (0, omega arith, refl) refl)

pub echo_10 : IsLegalResolved unmapped (take 10 resolved_echo)
unfolding request datagram packet_at packet address
echo_10 = Continues (take 7 resolved_echo) (take 3 (drop 7 resolved_echo)) echo_7 (Takes (heard (frame 0 0 2 (hardware 1) (echo_request 0)) first_here) [] (0, omega arith, refl) refl tt tt (Others refl refl tt))

echo_12 : IsLegalResolved unmapped (take 12 resolved_echo)
unfolding request datagram packet_at packet address
echo_12 = Continues (take 10 resolved_echo) (take 2 (drop 10 resolved_echo)) echo_10 (Resolves (heard (frame_in (asking 4 1 0 2 20 1 2)) second_here) (0, omega arith, refl) refl)

echo_14 : IsLegalResolved unmapped (take 14 resolved_echo)
unfolding request datagram packet_at packet address
echo_14 = Continues (take 12 resolved_echo) (take 2 (drop 12 resolved_echo)) echo_12 (Resolves (heard (frame_in (telling 5 1 1 3 20 2 2 1)) first_there) (0, omega arith, refl) refl)

echo_18 : IsLegalResolved unmapped (take 18 resolved_echo)
unfolding request datagram packet_at packet address
echo_18 = Continues (take 14 resolved_echo) (take 4 (drop 14 resolved_echo)) echo_14 (Takes (heard (frame 3 1 0 (hardware 3) (echo_request 4)) second_here) [] (0, omega arith, refl) refl tt tt (Others refl refl tt))

echo_20 : IsLegalResolved unmapped (take 20 resolved_echo)
unfolding request datagram packet_at packet address
echo_20 = Continues (take 18 resolved_echo) (take 2 (drop 18 resolved_echo)) echo_18 (Resolves (heard (frame_in (asking 7 2 1 4 30 1 5)) printer_seat) (0, omega arith, refl) refl)

echo_22 : IsLegalResolved unmapped (take 22 resolved_echo)
unfolding request datagram packet_at packet address
echo_22 = Continues (take 20 resolved_echo) (take 2 (drop 20 resolved_echo)) echo_20 (Resolves (heard (frame_in (telling 8 2 3 6 30 5 4 1)) second_there) (0, omega arith, refl) refl)

echo_26 : IsLegalResolved unmapped (take 26 resolved_echo)
unfolding request datagram packet_at packet address
echo_26 = Continues (take 22 resolved_echo) (take 4 (drop 22 resolved_echo)) echo_22 (Takes (heard (frame 6 2 1 (hardware 6) (echo_request 8)) printer_seat) (reply_leg ∷ []) (0, omega arith, refl) refl (reply_is_made, tt) (refl, tt) (Others refl refl (refl, tt)))

echo_28 : IsLegalResolved unmapped (take 28 resolved_echo)
unfolding request datagram packet_at packet address
echo_28 = Continues (take 26 resolved_echo) (take 2 (drop 26 resolved_echo)) echo_26 (Resolves (heard (frame_in (asking 10 2 3 6 30 5 1)) second_there) (0, omega arith, refl) refl)

echo_30 : IsLegalResolved unmapped (take 30 resolved_echo)
unfolding request datagram packet_at packet address
echo_30 = Continues (take 28 resolved_echo) (take 2 (drop 28 resolved_echo)) echo_28 (Resolves (heard (frame_in (telling 11 2 1 4 30 1 6 5)) printer_seat) (0, omega arith, refl) refl)

echo_33 : IsLegalResolved unmapped (take 33 resolved_echo)
unfolding request datagram packet_at packet address
echo_33 = Continues (take 30 resolved_echo) (take 3 (drop 30 resolved_echo)) echo_30 (Takes (heard (frame 9 2 3 (hardware 4) (echo_reply 0)) second_there) [] (0, omega arith, refl) refl tt tt (Others refl refl tt))

echo_35 : IsLegalResolved unmapped (take 35 resolved_echo)
unfolding request datagram packet_at packet address
echo_35 = Continues (take 33 resolved_echo) (take 2 (drop 33 resolved_echo)) echo_33 (Resolves (heard (frame_in (asking 13 1 1 3 20 2 1)) first_there) (0, omega arith, refl) refl)

echo_37 : IsLegalResolved unmapped (take 37 resolved_echo)
unfolding request datagram packet_at packet address
echo_37 = Continues (take 35 resolved_echo) (take 2 (drop 35 resolved_echo)) echo_35 (Resolves (heard (frame_in (telling 14 1 0 2 20 1 3 2)) second_here) (0, omega arith, refl) refl)

echo_41 : IsLegalResolved unmapped (take 41 resolved_echo)
unfolding request datagram packet_at packet address
echo_41 = Continues (take 37 resolved_echo) (take 4 (drop 37 resolved_echo)) echo_37 (Takes (heard (frame 12 1 1 (hardware 2) (echo_reply 4)) first_there) [] (0, omega arith, refl) refl tt tt (Others refl refl tt))

echo_43 : IsLegalResolved unmapped (take 43 resolved_echo)
unfolding request datagram packet_at packet address
echo_43 = Continues (take 41 resolved_echo) (take 2 (drop 41 resolved_echo)) echo_41 (Resolves (heard (frame_in (asking 16 0 0 1 10 1 7)) node_seat) (0, omega arith, refl) refl)

echo_45 : IsLegalResolved unmapped (take 45 resolved_echo)
unfolding request datagram packet_at packet address
echo_45 = Continues (take 43 resolved_echo) (take 2 (drop 43 resolved_echo)) echo_43 (Resolves (heard (frame_in (telling 17 0 2 5 10 7 1 1)) first_here) (0, omega arith, refl) refl)

pub echo_46 : IsLegalResolved unmapped resolved_echo
unfolding request datagram packet_at packet address
echo_46 = Continues (take 45 resolved_echo) (take 1 (drop 45 resolved_echo)) echo_45 (Takes (heard (frame 15 0 0 (hardware 5) (echo_reply 8)) node_seat) [] (0, omega arith, refl) refl tt tt (Others refl refl tt))
