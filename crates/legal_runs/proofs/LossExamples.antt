-- Transcripts with losses are legal with losses, block by block.
use Rattle.std.proofs.Common.{inr, [], ◌∷◌, ◌++◌, None, refl, arith, take}
use Rattle.at_base.specs.Packets.{address, text}
use Rattle.ddp.specs.Datagram.{datagram}
use Rattle.nbp.specs.Packets.{packet, tuple}
use Rattle.audit.specs.Example.{addr, hardware, three_cables}
use Rattle.cable_model.specs.declared.entry.How.TheVariants as how
use Rattle.cable_model.specs.Transcript.{Lost, Reached, Sent, Took}
use Rattle.legal_runs.specs.Answers.{Others}
use Rattle.legal_runs.specs.Example.{echo, echo_request, framed}
use Rattle.legal_runs.specs.LookupExample.{blue_forward, blue_names}
use Rattle.legal_runs.specs.Losses.{Another, Ends, Keeps, Loses as LosesHere, Nothing}
use Rattle.legal_runs.specs.LossExample.{echo_lost, echo_skips, forward_lost, lost_between}
use Rattle.legal_runs.specs.LossyRuns.{Begins, Continues, IsLegalWithLosses, Loses, Sends, Takes}
use Rattle.legal_runs.specs.Requests.{request, zone_of}
use Rattle.legal_runs.proofs.BlueNames.{expanded}
use Rattle.legal_runs.proofs.ByHand.{frame, pair}
use Rattle.legal_runs.proofs.Echo.{asked, passed_on, request_is_made, request_leg}
use Rattle.legal_runs.proofs.Lossy.{all_kept}
use Rattle.legal_runs.proofs.LossyLaws.{legal_with_losses}

pub lost_is_legal : IsLegalWithLosses three_cables echo_lost
lost_is_legal =
    Continues (take 4 echo) (Lost 1 ∷ []) (legal_with_losses three_cables (take 4 echo) passed_on)
    (Loses (pair (frame 1 1 0 (hardware 3) (echo_request 4)) 1 0 3 None) (0, omega arith, refl))

pub forward_is_legal : IsLegalWithLosses three_cables forward_lost
unfolding request zone_of datagram packet tuple address text
forward_is_legal =
    Continues (take 8 blue_names) (Lost 2 ∷ []) (legal_with_losses three_cables (take 8 blue_names) expanded)
    (Loses (pair (frame 2 1 0 (hardware 3) blue_forward) 1 0 3 None) (0, omega arith, refl))

-- ---- Stamps that aren't consecutive

skip_sent : IsLegalWithLosses three_cables (take 2 echo_skips)
skip_sent =
    Continues [] (take 2 echo_skips) Begins
    (Sends request_leg (take 2 echo_skips) (take 2 echo_skips) request_is_made
    (record { by_node = refl; handed = inr (addr 10 1, 0, refl, refl) })
    (Another 0 3 request_leg [] [] (omega arith) (Nothing 4)) (all_kept three_cables [] (take 2 echo_skips)))

skip_passed : IsLegalWithLosses three_cables (take 4 echo_skips)
unfolding request datagram
skip_passed =
    Continues (take 2 echo_skips) (Took 3 0 ∷ framed 7 1 0 3 (echo_request 4) ∷ []) skip_sent
    (Takes (pair (frame 3 0 2 (hardware 1) (echo_request 0)) 0 0 1 None) [] (framed 7 1 0 3 (echo_request 4) ∷ [])
    (framed 7 1 0 3 (echo_request 4) ∷ []) (0, omega arith, refl) tt tt (Others refl refl tt)
    (record { stamp = 7; above = omega arith; rest = []; said = Nothing 8; whole = refl })
    (all_kept three_cables (take 2 echo_skips ++ Took 3 0 ∷ []) (framed 7 1 0 3 (echo_request 4) ∷ [])))

pub skips_is_legal : IsLegalWithLosses three_cables echo_skips
unfolding request datagram
skips_is_legal =
    let es = Reached 2 1 how.Station (echo_request 0) ∷ framed 8 2 1 6 (echo_request 8) ∷ [] in
    Continues (take 4 echo_skips) (Took 7 1 ∷ es) skip_passed
    (Takes (pair (frame 7 1 0 (hardware 3) (echo_request 4)) 1 0 3 None) [] es es (0, omega arith, refl) tt tt (Others refl refl tt)
    (record { stamp = 8; above = omega arith; rest = []; said = Nothing 9; whole = refl })
    (all_kept three_cables (take 4 echo_skips ++ Took 7 1 ∷ []) es))

-- ---- A loss among the entries of another datagram

pub between_is_legal : IsLegalWithLosses three_cables lost_between
between_is_legal =
    let sent = Sent 2 (echo_request 0) in
    let put = framed 1 0 2 1 (echo_request 0) in
    Continues (take 2 echo) (sent ∷ Lost 0 ∷ put ∷ []) (legal_with_losses three_cables (take 2 echo) asked)
    (Sends request_leg (sent ∷ put ∷ []) (sent ∷ Lost 0 ∷ put ∷ []) request_is_made
    (record { by_node = refl; handed = inr (addr 10 1, 0, refl, refl) })
    (Another 1 1 request_leg [] [] (omega arith) (Nothing 2))
    (Keeps (take 2 echo) sent (put ∷ []) (Lost 0 ∷ put ∷ [])
    (LosesHere (take 2 echo ++ sent ∷ []) (pair (frame 0 0 2 (hardware 1) (echo_request 0)) 0 0 1 None) (put ∷ []) (put ∷ [])
    (0, omega arith, refl)
    (Keeps (take 2 echo ++ sent ∷ Lost 0 ∷ []) put [] [] (Ends (take 2 echo ++ sent ∷ Lost 0 ∷ put ∷ []))))))
