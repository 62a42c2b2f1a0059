-- The transcripts of datagrams that end in other ways are legal, block by block.
use Rattle.std.proofs.Common.{ℕ, inr, false, [], ◌∷◌, Some, None, refl, sym, arith, take, drop, codes}
use Rattle.ddp.specs.declared.header.Header.{Header}
use Rattle.ddp.specs.Datagram.{datagram, unsummed}
use Rattle.ddp.proofs.Shape.{bytes_laid}
use Rattle.audit.specs.Example.{addr, hardware, three_cables}
use Rattle.cable_model.specs.Transcript.{Took}
use Rattle.legal_runs.specs.Answers.{Others, IsBody, IsMade, ByRouter}
use Rattle.legal_runs.specs.Example.{plain, to_everybody, to_nobody, to_nowhere}
use Rattle.legal_runs.specs.Legal.{IsLegal, Begins, Continues, Sends, Takes}
use Rattle.legal_runs.specs.Legs.{Leg}
use Rattle.at_base.specs.Multicast.{all_hw, group_of}
use Rattle.legal_runs.specs.Requests.{request}
use Rattle.legal_runs.proofs.ByHand.{fitting, frame, is_body, not_zero, pair}
use Rattle.station.specs.declared.output.Next.TheVariants as next

-- ---- The datagrams, and their first legs

abbrev header_to : ℕ → ℕ → Header
header_to net node =
    record { summed = false; target = addr net node; source = addr 10 7; target_socket = 128; source_socket = 128; kind = 128 }

nobody_is_body : IsBody (plain 0 10 9)
nobody_is_body =
    let h = header_to 10 9 in
    is_body h [] (plain 0 10 9)
    (fitting h (omega arith) (omega arith) (omega arith) (omega arith) (omega arith) (omega arith) (omega arith)) (omega arith)
    (sym (bytes_laid (unsummed h []))) refl

everybody_is_body : IsBody (plain 0 30 255)
everybody_is_body =
    let h = header_to 30 255 in
    is_body h [] (plain 0 30 255)
    (fitting h (omega arith) (omega arith) (omega arith) (omega arith) (omega arith) (omega arith) (omega arith)) (omega arith)
    (sym (bytes_laid (unsummed h []))) refl

nowhere_is_body : IsBody (plain 0 50 9)
nowhere_is_body =
    let h = header_to 50 9 in
    is_body h [] (plain 0 50 9)
    (fitting h (omega arith) (omega arith) (omega arith) (omega arith) (omega arith) (omega arith) (omega arith)) (omega arith)
    (sym (bytes_laid (unsummed h []))) refl

-- The node sends the datagram to its router.
abbrev leg_to_router : ℕ → ℕ → Leg
leg_to_router net node = record { station = 2; cable = 0; next = next.Station (addr 10 1); body = plain 0 net node; hops = 0 }

nobody_is_made : IsMade three_cables (leg_to_router 10 9)
nobody_is_made =
    record { seated = refl; whole = nobody_is_body; fresh = refl; goes = ByRouter (addr 10 1) 0 refl refl (not_zero 10 (omega arith)) }

everybody_is_made : IsMade three_cables (leg_to_router 30 255)
everybody_is_made =
    record { seated = refl; whole = everybody_is_body; fresh = refl; goes = ByRouter (addr 10 1) 0 refl refl (not_zero 30 (omega arith)) }

nowhere_is_made : IsMade three_cables (leg_to_router 50 9)
nowhere_is_made =
    record { seated = refl; whole = nowhere_is_body; fresh = refl; goes = ByRouter (addr 10 1) 0 refl refl (not_zero 50 (omega arith)) }

-- ---- The blocks

nobody_sent : IsLegal three_cables (take 2 to_nobody)
nobody_sent =
    Continues [] (take 2 to_nobody) Begins
    (Sends (leg_to_router 10 9) nobody_is_made (record { by_node = refl; handed = inr (addr 10 1, 0, refl, refl) }))

pub nobody_is_legal : IsLegal three_cables to_nobody
unfolding request datagram
nobody_is_legal =
    Continues (take 2 to_nobody) (drop 2 to_nobody) nobody_sent
    (Takes (pair (frame 0 0 2 (hardware 1) (plain 0 10 9)) 0 0 1 None) [] (0, omega arith, refl) tt tt (Others refl refl tt))

everybody_sent : IsLegal three_cables (take 2 to_everybody)
everybody_sent =
    Continues [] (take 2 to_everybody) Begins
    (Sends (leg_to_router 30 255) everybody_is_made (record { by_node = refl; handed = inr (addr 10 1, 0, refl, refl) }))

everybody_passed : IsLegal three_cables (take 4 to_everybody)
unfolding request datagram
everybody_passed =
    Continues (take 2 to_everybody) (take 2 (drop 2 to_everybody)) everybody_sent
    (Takes (pair (frame 0 0 2 (hardware 1) (plain 0 30 255)) 0 0 1 None) [] (0, omega arith, refl) tt tt (Others refl refl tt))

everybody_reached : IsLegal three_cables (take 7 to_everybody)
unfolding request datagram
everybody_reached =
    Continues (take 4 to_everybody) (take 3 (drop 4 to_everybody)) everybody_passed
    (Takes (pair (frame 1 1 0 (hardware 3) (plain 4 30 255)) 1 0 3 None) [] (0, omega arith, refl) tt tt (Others refl refl tt))

pub everybody_is_legal : IsLegal three_cables to_everybody
unfolding request datagram
everybody_is_legal =
    Continues (take 7 to_everybody) (Took 2 3 ∷ []) everybody_reached
    (Takes (pair (frame 2 2 1 all_hw (plain 8 30 255)) 3 0 6 (Some (group_of (codes "Blue")))) [] (0, omega arith, refl) tt tt
    (Others refl refl tt))

nowhere_sent : IsLegal three_cables (take 2 to_nowhere)
nowhere_sent =
    Continues [] (take 2 to_nowhere) Begins
    (Sends (leg_to_router 50 9) nowhere_is_made (record { by_node = refl; handed = inr (addr 10 1, 0, refl, refl) }))

pub nowhere_is_legal : IsLegal three_cables to_nowhere
unfolding request datagram
nowhere_is_legal =
    Continues (take 2 to_nowhere) (drop 2 to_nowhere) nowhere_sent
    (Takes (pair (frame 0 0 2 (hardware 1) (plain 0 50 9)) 0 0 1 None) [] (0, omega arith, refl) tt tt (Others refl refl tt))
