-- The echo over three cables is legal, block by block.
use Rattle.std.proofs.Common.{ℕ, inr, false, [], ◌∷◌, Some, None, refl, sym, arith, take, drop, codes}
use Rattle.at_base.specs.declared.address.Addr.{Addr}
use Rattle.ddp.specs.declared.header.Header.{Header}
use Rattle.ddp.specs.Datagram.{datagram, unsummed}
use Rattle.ddp.proofs.Shape.{bytes_laid}
use Rattle.audit.specs.Example.{addr, hardware, three_cables}
use Rattle.cable_model.specs.Transcript.{Took}
use Rattle.legal_runs.proofs.ByHand.{fitting, frame, is_body, not_zero, pair}
use Rattle.legal_runs.specs.Answers.{Others, IsBody, IsMade, ByRouter}
use Rattle.legal_runs.specs.Example.{echo, ping, echo_reply, echo_request}
use Rattle.legal_runs.specs.Legal.{IsLegal, Begins, Continues, Sends, Takes}
use Rattle.legal_runs.specs.Legs.{Leg}
use Rattle.legal_runs.specs.Requests.{request}
use Rattle.at_base.specs.Multicast.{group_of}
use Rattle.station.specs.declared.output.Next.TheVariants as next

-- ---- The two datagrams

abbrev header_of : Addr → Addr → ℕ → ℕ → Header
header_of target source to from =
    record { summed = false; target = target; source = source; target_socket = to; source_socket = from; kind = 4 }

request_is_body : IsBody (echo_request 0)
request_is_body =
    let h = header_of (addr 30 5) (addr 10 7) 4 128 in
    is_body h (1 ∷ ping) (echo_request 0)
    (fitting h (omega arith) (omega arith) (omega arith) (omega arith) (omega arith) (omega arith) (omega arith)) (omega arith)
    (sym (bytes_laid (unsummed h (1 ∷ ping)))) refl

reply_is_body : IsBody (echo_reply 0)
reply_is_body =
    let h = header_of (addr 10 7) (addr 30 5) 128 4 in
    is_body h (2 ∷ ping) (echo_reply 0)
    (fitting h (omega arith) (omega arith) (omega arith) (omega arith) (omega arith) (omega arith) (omega arith)) (omega arith)
    (sym (bytes_laid (unsummed h (2 ∷ ping)))) refl

-- ---- The blocks

-- The node sends the request to its router.
abbrev pub request_leg : Leg
request_leg = record { station = 2; cable = 0; next = next.Station (addr 10 1); body = echo_request 0; hops = 0 }

-- The printer sends its reply to its router.
abbrev reply_leg : Leg
reply_leg = record { station = 3; cable = 2; next = next.Station (addr 30 1); body = echo_reply 0; hops = 0 }

pub request_is_made : IsMade three_cables request_leg
request_is_made =
    record { seated = refl; whole = request_is_body; fresh = refl; goes = ByRouter (addr 10 1) 0 refl refl (not_zero 30 (omega arith)) }

reply_is_made : IsMade three_cables reply_leg
reply_is_made =
    record { seated = refl; whole = reply_is_body; fresh = refl; goes = ByRouter (addr 30 1) 1 refl refl (not_zero 10 (omega arith)) }

pub asked : IsLegal three_cables (take 2 echo)
unfolding request datagram
asked =
    Continues [] (take 2 echo) Begins
    (Sends request_leg request_is_made (record {
      by_node = refl;
      handed = inr (addr 10 1, 0, refl, refl);
    }))

pub passed_on : IsLegal three_cables (take 4 echo)
unfolding request datagram
passed_on =
    Continues (take 2 echo) (take 2 (drop 2 echo)) asked
    (Takes (pair (frame 0 0 2 (hardware 1) (echo_request 0)) 0 0 1 None) [] (0, omega arith, refl) tt tt (Others refl refl tt))

arrived : IsLegal three_cables (take 7 echo)
unfolding request datagram
arrived =
    Continues (take 4 echo) (take 3 (drop 4 echo)) passed_on
    (Takes (pair (frame 1 1 0 (hardware 3) (echo_request 4)) 1 0 3 None) [] (0, omega arith, refl) tt tt (Others refl refl tt))

replied : IsLegal three_cables (take 10 echo)
unfolding request datagram
replied =
    Continues (take 7 echo) (take 3 (drop 7 echo)) arrived
    (Takes (pair (frame 2 2 1 (hardware 6) (echo_request 8)) 3 0 6 (Some (group_of (codes "Blue")))) (reply_leg ∷ [])
    (0, omega arith, refl)
    (reply_is_made, tt) (refl, tt) (Others refl refl (refl, tt)))

passed_back : IsLegal three_cables (take 12 echo)
unfolding request datagram
passed_back =
    Continues (take 10 echo) (take 2 (drop 10 echo)) replied
    (Takes (pair (frame 3 2 3 (hardware 4) (echo_reply 0)) 1 1 4 None) [] (0, omega arith, refl) tt tt (Others refl refl tt))

come_back : IsLegal three_cables (take 15 echo)
unfolding request datagram
come_back =
    Continues (take 12 echo) (take 3 (drop 12 echo)) passed_back
    (Takes (pair (frame 4 1 1 (hardware 2) (echo_reply 4)) 0 1 2 None) [] (0, omega arith, refl) tt tt (Others refl refl tt))

pub echo_is_legal : IsLegal three_cables echo
unfolding request datagram
echo_is_legal =
    Continues (take 15 echo) (Took 5 2 ∷ []) come_back
    (Takes (pair (frame 5 0 0 (hardware 5) (echo_reply 8)) 2 0 5 (Some (group_of (codes "Red")))) [] (0, omega arith, refl) tt tt
    (Others refl refl tt))
