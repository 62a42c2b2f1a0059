-- The packets accepted in the example, and the response that is complete with them.
use Rattle.std.proofs.Common.{◌≡◌, ℕ, zero, suc, ◌<◌, List, [], ◌∷◌, slice_get, Some, refl, arith}
use Rattle.atp.specs.declared.ask.AnswerPart.{AnswerPart}
use Rattle.atp.specs.Packets.{AtpPacket}
use Rattle.atp.specs.Requesting.{IsAsk, part_of}
use Rattle.atp.specs.Complete.{CompleteResponse, first_copy, history}
use Rattle.atp.specs.CompleteExample.{heard, response, steps, three_parts}

pub may_be_asked : IsAsk three_parts
may_be_asked = record { some = omega arith; few = omega arith; every = omega arith; tries = omega arith; release = omega arith }

pub is_heard : history steps 1 three_parts ≡ heard
is_heard = refl

pub is_complete : CompleteResponse 3 heard (part_of (response 0x80 0 10) ∷ part_of (response 0x90 1 11) ∷ [])
is_complete = record { count = refl; each = each }
  where
    each : (i : ℕ) → i < 2
        → (p : AtpPacket) × (first_copy i heard ≡ Some p)
        × (slice_get (part_of (response 0x80 0 10) ∷ part_of (response 0x90 1 11) ∷ []) i ≡ Some (part_of p))
    each zero lt = (response 0x80 0 10, refl, refl)
    each (suc zero) lt = (response 0x90 1 11, refl, refl)
    each (suc (suc i)) lt = absurd (omega (arith, lt))

pub last_is_missing : (parts : List AnswerPart) → ¬ CompleteResponse 3 (response 0x80 0 10 ∷ response 0x80 1 11 ∷ []) parts
last_is_missing parts c =
    let e = (c.each 2 (omega arith)).1 in
    absurd cc
