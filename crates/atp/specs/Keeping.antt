-- The time for which a responder keeps an answer. (Inside AppleTalk, the chapter on ATP; that the time begins anew with
-- each repeat is this project's own)
use Rattle.std.specs.Prelude.{ℕ, ◌-◌, Bool, true, not, ◌&&◌, ◌==◌, List, [], ◌∷◌, nat_lt, if◌then◌else◌}
use Rattle.atp.specs.declared.ask.AnswerPart.{AnswerPart}
use Rattle.atp.specs.declared.ask.Peer.{Peer}
use Rattle.atp.specs.declared.request.Request.{Request}
use Rattle.atp.specs.Packets.{AtpPacket, is_release, is_request}
use Rattle.atp.specs.Responding.{answered, heard, request_of, same_peer, ticked, waits, without}

-- an event: a packet comes from a socket, the user responds to a request or removes it, or a tick passes
pub data Event : Type 0 where
  Heard : (from : Peer) (p : AtpPacket) → Event
  Responded : (from : Peer) (id : ℕ) (parts : List AnswerPart) → Event
  Forgot : (from : Peer) (id : ℕ) → Event
  Passed : Event

-- the requests that a responder holds after an event
abbrev pub held_after : Event → List Request → List Request
held_after (Heard from p) requests = (heard from p requests).1
held_after (Responded from id parts) requests = if waits (request_of from id requests) then answered from id parts requests else requests
held_after (Forgot from id) requests = without from id requests
held_after Passed requests = ticked requests

-- the requests that a responder holds after some events, the first of them first
abbrev pub run : List Event → List Request → List Request
run [] requests = requests
run (event ∷ events) requests = run events (held_after event requests)

-- the two requests have the same asker and ID
abbrev pub is_same : Peer → ℕ → Peer → ℕ → Bool
is_same from id asker other = same_peer asker from && other == id

-- An answer with this release time, of which left ticks are left, lasts through the events: no release of its request
-- comes, its user doesn't remove it, and its time, which a repeat of the request restarts, doesn't end.
abbrev pub lasts : Peer → ℕ → ℕ → ℕ → List Event → Bool
lasts from id release left [] = true
lasts from id release left (Heard asker p ∷ events) =
    if not (is_same from id asker p.id) then lasts from id release left events
    else if is_request p.control then lasts from id release release events
    else not (is_release p.control) && lasts from id release left events
lasts from id release left (Responded asker other parts ∷ events) = lasts from id release left events
lasts from id release left (Forgot asker other ∷ events) = not (is_same from id asker other) && lasts from id release left events
lasts from id release left (Passed ∷ events) = nat_lt 1 left && lasts from id release (left - 1) events
