-- The plain transcript of the echo is legal with losses, block by block.
use Rattle.std.proofs.Common.{[], ◌∷◌, refl, arith, take, drop}
use Rattle.ddp.specs.Datagram.{datagram}
use Rattle.audit.specs.Example.{hardware}
use Rattle.legal_runs.proofs.ByHand.{frame}
use Rattle.legal_runs.proofs.Echo.{request_leg}
use Rattle.legal_runs.specs.Answers.{Others}
use Rattle.legal_runs.specs.Example.{echo_reply, echo_request}
use Rattle.legal_runs.specs.Requests.{request}
use Rattle.resolved_runs.specs.Example.{plain_echo, unmapped}
use Rattle.legal_runs.specs.Losses.{Another, Nothing}
use Rattle.legal_runs.specs.LossyRuns.{Begins, Continues, IsLegalWithLosses, Sends, Takes}
use Rattle.legal_runs.proofs.Lossy.{all_kept}
use Rattle.resolved_runs.proofs.Echo.{first_here, first_there, heard, node_seat, printer_seat, reply_is_made, reply_leg}
use Rattle.resolved_runs.proofs.Echo.{request_is_made, request_is_own, second_here, second_there}

plain_2 : IsLegalWithLosses unmapped (take 2 plain_echo)
unfolding request datagram
plain_2 = Continues [] (take 2 (drop 0 plain_echo)) Begins (Sends request_leg (take 2 (drop 0 plain_echo)) (take 2 (drop 0 plain_echo)) request_is_made request_is_own (Another 0 0 request_leg [] [] (omega arith) (Nothing 1)) (all_kept unmapped [] (take 2 (drop 0 plain_echo))))

plain_4 : IsLegalWithLosses unmapped (take 4 plain_echo)
unfolding request datagram
plain_4 = Continues (take 2 plain_echo) (take 2 (drop 2 plain_echo)) plain_2 (Takes (heard (frame 0 0 2 (hardware 1) (echo_request 0)) first_here) [] (take 1 (drop 3 plain_echo)) (take 1 (drop 3 plain_echo)) (0, omega arith, refl) tt tt (Others refl refl tt) (record { stamp = 3; above = omega arith; rest = []; said = Nothing 4; whole = refl }) (all_kept unmapped (take 3 plain_echo) (take 1 (drop 3 plain_echo))))

plain_7 : IsLegalWithLosses unmapped (take 7 plain_echo)
unfolding request datagram
plain_7 = Continues (take 4 plain_echo) (take 3 (drop 4 plain_echo)) plain_4 (Takes (heard (frame 3 1 0 (hardware 3) (echo_request 4)) second_here) [] (take 2 (drop 5 plain_echo)) (take 2 (drop 5 plain_echo)) (0, omega arith, refl) tt tt (Others refl refl tt) (record { stamp = 6; above = omega arith; rest = []; said = Nothing 7; whole = refl }) (all_kept unmapped (take 5 plain_echo) (take 2 (drop 5 plain_echo))))

plain_10 : IsLegalWithLosses unmapped (take 10 plain_echo)
unfolding request datagram
plain_10 = Continues (take 7 plain_echo) (take 3 (drop 7 plain_echo)) plain_7 (Takes (heard (frame 6 2 1 (hardware 6) (echo_request 8)) printer_seat) (reply_leg ∷ []) (take 2 (drop 8 plain_echo)) (take 2 (drop 8 plain_echo)) (0, omega arith, refl) (reply_is_made, tt) (refl, tt) (Others refl refl (refl, tt)) (record { stamp = 9; above = omega arith; rest = (take 2 (drop 8 plain_echo)); said = Another 9 9 reply_leg [] [] (omega arith) (Nothing 10); whole = refl }) (all_kept unmapped (take 8 plain_echo) (take 2 (drop 8 plain_echo))))

plain_12 : IsLegalWithLosses unmapped (take 12 plain_echo)
unfolding request datagram
plain_12 = Continues (take 10 plain_echo) (take 2 (drop 10 plain_echo)) plain_10 (Takes (heard (frame 9 2 3 (hardware 4) (echo_reply 0)) second_there) [] (take 1 (drop 11 plain_echo)) (take 1 (drop 11 plain_echo)) (0, omega arith, refl) tt tt (Others refl refl tt) (record { stamp = 12; above = omega arith; rest = []; said = Nothing 13; whole = refl }) (all_kept unmapped (take 11 plain_echo) (take 1 (drop 11 plain_echo))))

plain_15 : IsLegalWithLosses unmapped (take 15 plain_echo)
unfolding request datagram
plain_15 = Continues (take 12 plain_echo) (take 3 (drop 12 plain_echo)) plain_12 (Takes (heard (frame 12 1 1 (hardware 2) (echo_reply 4)) first_there) [] (take 2 (drop 13 plain_echo)) (take 2 (drop 13 plain_echo)) (0, omega arith, refl) tt tt (Others refl refl tt) (record { stamp = 15; above = omega arith; rest = []; said = Nothing 16; whole = refl }) (all_kept unmapped (take 13 plain_echo) (take 2 (drop 13 plain_echo))))

pub plain_16 : IsLegalWithLosses unmapped plain_echo
unfolding request datagram
plain_16 = Continues (take 15 plain_echo) (take 1 (drop 15 plain_echo)) plain_15 (Takes (heard (frame 15 0 0 (hardware 5) (echo_reply 8)) node_seat) [] [] [] (0, omega arith, refl) tt tt (Others refl refl tt) (record { stamp = 16; above = omega arith; rest = []; said = Nothing 16; whole = refl }) (all_kept unmapped (take 16 plain_echo) []))
