-- Complete responses, defined by the packets received, independently of what a requester stores. (Inside AppleTalk, the
-- chapter on ATP)
use Rattle.std.specs.Prelude.{◌≡◌, ℕ, zero, suc, ◌+◌, ◌<◌, Bool, true, not, ◌&&◌, ◌==◌, List, [], ◌∷◌, ◌++◌, length}
use Rattle.std.specs.Prelude.{Option, Some, find, is_some, min, nat_lt, slice_get, if◌then◌else◌}
use Rattle.atp.specs.declared.ask.AnswerPart.{AnswerPart}
use Rattle.atp.specs.declared.ask.Ask.{Ask}
use Rattle.atp.specs.declared.ask.Peer.{Peer}
use Rattle.atp.specs.declared.transaction.Transaction.{Transaction}
use Rattle.atp.specs.Packets.{AtpPacket, is_end}
use Rattle.atp.specs.Requesting.{after_hearing, answers, begun, is_due, part_of, sent, ticked}

-- ---- the packets that were accepted, oldest first

-- The number of parts: up to the least part that is marked as the end, or else as many as were asked for.
abbrev pub part_count : ℕ → List AtpPacket → ℕ
part_count asked [] = asked
part_count asked (p ∷ heard) = if is_end p.control then min (p.part + 1) (part_count asked heard) else part_count asked heard

-- the first packet with part i, if any
abbrev pub first_copy : ℕ → List AtpPacket → Option AtpPacket
first_copy i heard = find (λ p. p.part == i) heard

-- a test passes for each number below n
abbrev pub all_below : ℕ → (ℕ → Bool) → Bool
all_below zero test = true
all_below (suc n) test = test n && all_below n test

-- each of the parts was received
abbrev pub is_whole : ℕ → List AtpPacket → Bool
is_whole asked heard = all_below (part_count asked heard) (λ i. is_some (first_copy i heard))

-- part i is one of the parts, and wasn't received
abbrev pub is_missing : ℕ → List AtpPacket → ℕ → Bool
is_missing asked heard i = nat_lt i (part_count asked heard) && not (is_some (first_copy i heard))

-- The parts of a complete response: each has the user bytes and the data of its first packet.
pub record CompleteResponse (asked : ℕ) (heard : List AtpPacket) (parts : List AnswerPart) : Type 0 where
  pub count : length parts ≡ part_count asked heard
  pub each : (i : ℕ) → i < part_count asked heard
      → (p : AtpPacket) × (first_copy i heard ≡ Some p) × (slice_get parts i ≡ Some (part_of p))

-- ---- the steps of an open transaction

-- a step: a packet comes from a socket, the request is sent if it is due, or a tick passes
pub data Step : Type 0 where
  Came : (from : Peer) (p : AtpPacket) → Step
  Sent : Step
  Tick : Step

-- the transaction after a step
abbrev pub after : Step → Transaction → Transaction
after (Came from p) t = after_hearing from p t
after Sent t = if is_due t then sent t else t
after Tick t = ticked t

-- the transaction after some steps, the first of them first
abbrev pub run : List Step → Transaction → Transaction
run [] t = t
run (step ∷ steps) t = run steps (after step t)

-- The packets accepted up to a step, and those accepted after it: one more if the step brings a response from the
-- socket that the request went to, for a part that it asked for, and the transaction hasn't failed and the response
-- isn't whole.
abbrev pub heard_after : Step → Transaction → List AtpPacket → List AtpPacket
heard_after (Came from p) t heard =
    if not t.failed && not (is_whole t.ask.parts heard) && answers from p t then heard ++ p ∷ [] else heard
heard_after Sent t heard = heard
heard_after Tick t heard = heard

-- the packets accepted after some steps, given those accepted before
abbrev pub heard_in : List Step → Transaction → List AtpPacket → List AtpPacket
heard_in [] t heard = heard
heard_in (step ∷ steps) t heard = heard_in steps (after step t) (heard_after step t heard)

-- the packets that a transaction accepted since it began
abbrev pub history : List Step → ℕ → Ask → List AtpPacket
history steps id ask = heard_in steps (begun id ask) []
