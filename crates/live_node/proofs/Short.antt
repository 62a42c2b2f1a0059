-- A GetNetInfo request fits into a datagram.
use Rattle.std.proofs.Common.{◌≤◌, ℕ, List, [], ◌++◌, length, ap, arith}
use Rattle.std.proofs.lemmas.List.{append-nil}
use Rattle.at_base.specs.Packets.{text}
use Rattle.at_base.specs.Spelling.{bytes_of}
use Rattle.zip_zones.specs.Formats.{body, packet}
use Rattle.zip_zones.specs.Written.{question}

-- a GetNetInfo request has seven bytes and the zone
pub question_short : (zone : List ℕ) → length zone ≤ 32 → length (bytes_of packet (question zone)) ≤ 586
unfolding packet body text
question_short zone few =
    omega (arith, few, ap (λ (l : List ℕ). length l) (append-nil zone), ap (λ (l : List ℕ). length l) (append-nil (zone ++ [])))
