-- The second echo is legal too: each station has a mapping of its next stations.
use Rattle.std.proofs.Common.{[], ◌∷◌, ◌++◌, refl, arith, take, drop}
use Rattle.at_base.specs.Packets.{address}
use Rattle.aarp.specs.Packets.{packet}
use Rattle.ddp.specs.Datagram.{datagram}
use Rattle.audit.specs.Example.{hardware}
use Rattle.station.specs.Resolution.{packet_at}
use Rattle.legal_runs.proofs.ByHand.{frame}
use Rattle.legal_runs.proofs.Echo.{request_leg}
use Rattle.legal_runs.specs.Answers.{Others}
use Rattle.legal_runs.specs.Example.{echo_reply, echo_request}
use Rattle.legal_runs.specs.Requests.{request}
use Rattle.resolved_runs.specs.Example.{echo_again, resolved_echo, unmapped}
use Rattle.resolved_runs.specs.ResolvedRuns.{Continues, IsLegalResolved, Sends, Takes}
use Rattle.resolved_runs.proofs.Echo.{echo_46, first_here, first_there, heard, node_seat, printer_seat, reply_is_made, reply_leg}
use Rattle.resolved_runs.proofs.Echo.{request_is_made, request_is_own, second_here, second_there}

again_2 : IsLegalResolved unmapped (resolved_echo ++ take 2 echo_again)
unfolding request datagram packet_at packet address
again_2 = Continues resolved_echo (take 2 (drop 0 echo_again)) echo_46 (Sends request_leg request_is_made request_is_own)

again_4 : IsLegalResolved unmapped (resolved_echo ++ take 4 echo_again)
unfolding request datagram packet_at packet address
again_4 = Continues (resolved_echo ++ take 2 echo_again) (take 2 (drop 2 echo_again)) again_2 (Takes (heard (frame 18 0 2 (hardware 1) (echo_request 0)) first_here) [] (0, omega arith, refl) refl tt tt (Others refl refl tt))

again_7 : IsLegalResolved unmapped (resolved_echo ++ take 7 echo_again)
unfolding request datagram packet_at packet address
again_7 = Continues (resolved_echo ++ take 4 echo_again) (take 3 (drop 4 echo_again)) again_4 (Takes (heard (frame 19 1 0 (hardware 3) (echo_request 4)) second_here) [] (0, omega arith, refl) refl tt tt (Others refl refl tt))

again_10 : IsLegalResolved unmapped (resolved_echo ++ take 10 echo_again)
unfolding request datagram packet_at packet address
again_10 = Continues (resolved_echo ++ take 7 echo_again) (take 3 (drop 7 echo_again)) again_7 (Takes (heard (frame 20 2 1 (hardware 6) (echo_request 8)) printer_seat) (reply_leg ∷ []) (0, omega arith, refl) refl (reply_is_made, tt) (refl, tt) (Others refl refl (refl, tt)))

again_12 : IsLegalResolved unmapped (resolved_echo ++ take 12 echo_again)
unfolding request datagram packet_at packet address
again_12 = Continues (resolved_echo ++ take 10 echo_again) (take 2 (drop 10 echo_again)) again_10 (Takes (heard (frame 21 2 3 (hardware 4) (echo_reply 0)) second_there) [] (0, omega arith, refl) refl tt tt (Others refl refl tt))

again_15 : IsLegalResolved unmapped (resolved_echo ++ take 15 echo_again)
unfolding request datagram packet_at packet address
again_15 = Continues (resolved_echo ++ take 12 echo_again) (take 3 (drop 12 echo_again)) again_12 (Takes (heard (frame 22 1 1 (hardware 2) (echo_reply 4)) first_there) [] (0, omega arith, refl) refl tt tt (Others refl refl tt))

pub again_16 : IsLegalResolved unmapped (resolved_echo ++ echo_again)
unfolding request datagram packet_at packet address
again_16 = Continues (resolved_echo ++ take 15 echo_again) (take 1 (drop 15 echo_again)) again_15 (Takes (heard (frame 23 0 0 (hardware 5) (echo_reply 8)) node_seat) [] (0, omega arith, refl) refl tt tt (Others refl refl tt))
