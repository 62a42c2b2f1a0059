-- Where every neighbour is mapped, the plain echo is legal with resolution.
use Rattle.std.proofs.Common.{inr, [], ◌∷◌, refl, arith, take, drop}
use Rattle.at_base.specs.Packets.{address}
use Rattle.aarp.specs.Packets.{packet}
use Rattle.ddp.specs.Datagram.{datagram}
use Rattle.audit.specs.Example.{addr, hardware}
use Rattle.station.specs.Resolution.{packet_at}
use Rattle.legal_runs.proofs.ByHand.{frame, not_zero}
use Rattle.legal_runs.proofs.Echo.{request_leg}
use Rattle.legal_runs.specs.Answers.{ByRouter, IsMade, Others}
use Rattle.legal_runs.specs.Example.{echo, echo_reply, echo_request}
use Rattle.legal_runs.specs.Requests.{request}
use Rattle.resolved_runs.specs.Example.{mapped}
use Rattle.resolved_runs.specs.ResolvedRuns.{Begins, Continues, IsLegalResolved, Sends, Takes}
use Rattle.resolved_runs.proofs.Echo.{first_here, first_there, heard, node_seat, printer_seat, reply_is_made, reply_leg}
use Rattle.resolved_runs.proofs.Echo.{request_is_made, second_here, second_there}

mapped_request_is_made : IsMade mapped request_leg
mapped_request_is_made =
    record {
      seated = refl;
      whole = request_is_made.whole;
      fresh = refl;
      goes = ByRouter (addr 10 1) 0 refl refl (not_zero 30 (omega arith));
    }

mapped_reply_is_made : IsMade mapped reply_leg
mapped_reply_is_made =
    record {
      seated = refl;
      whole = reply_is_made.whole;
      fresh = refl;
      goes = ByRouter (addr 30 1) 1 refl refl (not_zero 10 (omega arith));
    }

mapped_2 : IsLegalResolved mapped (take 2 echo)
unfolding request datagram packet_at packet address
mapped_2 = Continues [] (take 2 (drop 0 echo)) Begins (Sends request_leg mapped_request_is_made (record { by_node = refl; handed = inr (addr 10 1, 0, refl, refl) }))

mapped_4 : IsLegalResolved mapped (take 4 echo)
unfolding request datagram packet_at packet address
mapped_4 = Continues (take 2 echo) (take 2 (drop 2 echo)) mapped_2 (Takes (heard (frame 0 0 2 (hardware 1) (echo_request 0)) first_here) [] (0, omega arith, refl) refl tt tt (Others refl refl tt))

mapped_7 : IsLegalResolved mapped (take 7 echo)
unfolding request datagram packet_at packet address
mapped_7 = Continues (take 4 echo) (take 3 (drop 4 echo)) mapped_4 (Takes (heard (frame 1 1 0 (hardware 3) (echo_request 4)) second_here) [] (0, omega arith, refl) refl tt tt (Others refl refl tt))

mapped_10 : IsLegalResolved mapped (take 10 echo)
unfolding request datagram packet_at packet address
mapped_10 = Continues (take 7 echo) (take 3 (drop 7 echo)) mapped_7 (Takes (heard (frame 2 2 1 (hardware 6) (echo_request 8)) printer_seat) (reply_leg ∷ []) (0, omega arith, refl) refl (mapped_reply_is_made, tt) (refl, tt) (Others refl refl (refl, tt)))

mapped_12 : IsLegalResolved mapped (take 12 echo)
unfolding request datagram packet_at packet address
mapped_12 = Continues (take 10 echo) (take 2 (drop 10 echo)) mapped_10 (Takes (heard (frame 3 2 3 (hardware 4) (echo_reply 0)) second_there) [] (0, omega arith, refl) refl tt tt (Others refl refl tt))

mapped_15 : IsLegalResolved mapped (take 15 echo)
unfolding request datagram packet_at packet address
mapped_15 = Continues (take 12 echo) (take 3 (drop 12 echo)) mapped_12 (Takes (heard (frame 4 1 1 (hardware 2) (echo_reply 4)) first_there) [] (0, omega arith, refl) refl tt tt (Others refl refl tt))

pub mapped_16 : IsLegalResolved mapped echo
unfolding request datagram packet_at packet address
mapped_16 = Continues (take 15 echo) (take 1 (drop 15 echo)) mapped_15 (Takes (heard (frame 5 0 0 (hardware 5) (echo_reply 8)) node_seat) [] (0, omega arith, refl) refl tt tt (Others refl refl tt))
