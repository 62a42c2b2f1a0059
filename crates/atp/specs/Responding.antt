-- A responder: requests that wait for an answer, and answers that are kept. (Inside AppleTalk, the chapter on ATP; that
-- the time begins anew with each repeat is this project's own)
use Rattle.std.specs.Prelude.{ℕ, ◌-◌, ◌≤◌, Bool, true, false, not, ◌&&◌, ◌==◌, IsTrue, List, [], ◌∷◌, ◌++◌, length, map, filter, find}
use Rattle.std.specs.Prelude.{Option, Some, None, nat_lt, nat_le, is_some, if◌then◌else◌}
use Rattle.std.specs.List.{list_all, list_any}
use Rattle.at_base.specs.Address.{same_address}
use Rattle.atp.specs.declared.ask.Peer.{Peer}
use Rattle.atp.specs.declared.ask.AnswerPart.{AnswerPart}
use Rattle.atp.specs.declared.request.Request.{Request}
use Rattle.atp.specs.declared.request.Todo.{Todo}
use Rattle.atp.specs.declared.request.Todo.TheVariants.{Ask, Again, Wait, Nothing}
use Rattle.atp.specs.Answers.{is_answer}
use Rattle.atp.specs.Places.{with_first}
use Rattle.atp.specs.Packets.{AtpPacket, is_request, is_release, is_exactly_once, release_ticks}

-- the two sockets are equal
abbrev pub same_peer : Peer → Peer → Bool
same_peer a b = same_address a.addr b.addr && a.socket == b.socket

-- the request has this asker and ID, whatever its kind
abbrev pub is_of : Peer → ℕ → Request → Bool
is_of from id r = same_peer r.from from && r.id == id

-- The request with this asker and ID, of requests in the order in which they came.
abbrev pub request_of : Peer → ℕ → List Request → Option Request
request_of from id requests = find (is_of from id) requests

-- the requests without the one with this asker and ID
abbrev pub without : Peer → ℕ → List Request → List Request
without from id requests = filter (λ r. not (is_of from id r)) requests

-- a new request
abbrev pub new_request : Peer → AtpPacket → Request
new_request from p = record {
  from = from;
  id = p.id;
  once = is_exactly_once p.control;
  asked = p.part;
  release = release_ticks p.control;
  answer = None;
  left = 0;
}

-- the request after it came again: the time of its answer is restarted
abbrev pub repeated : Request → Request
repeated r = record r { left = r.release }

-- the request with its answer, whose time starts
abbrev pub with_answer : List AnswerPart → Request → Request
with_answer parts r = record r { answer = Some parts; left = r.release }

-- the number of requests of a kind: exactly-once or not
abbrev pub of_kind : Bool → List Request → ℕ
of_kind once requests = length (filter (λ r. if once then r.once else not r.once) requests)

-- the responder has room for a new request: at most 64 of each kind
abbrev pub has_room : AtpPacket → List Request → Bool
has_room p requests = nat_lt (of_kind (is_exactly_once p.control) requests) 64

-- the request is new, and the responder has no room for it
abbrev pub is_full_for : Peer → AtpPacket → List Request → Bool
is_full_for from p requests = not (is_some (request_of from p.id requests)) && not (has_room p requests)

-- The action for a request that came before, and the requests after it: a kept answer is sent again, and its time is
-- restarted; a request without an answer still waits.
abbrev pub asked_again : Peer → ℕ → List Request → Request → Todo × List Request
asked_again from id requests r = if is_some r.answer then (Again, with_first (is_of from id) repeated requests) else (Wait, requests)

-- The action for a request, and the requests after it: a new request is to be answered.
abbrev pub asked : Peer → AtpPacket → List Request → Option Request → Todo × List Request
asked from p requests None = (Ask, requests ++ new_request from p ∷ [])
asked from p requests (Some r) = asked_again from p.id requests r

-- The action for a packet, and the requests after it: a release removes its request.
abbrev pub heard : Peer → AtpPacket → List Request → Todo × List Request
heard from p requests =
    if is_request p.control then asked from p requests (request_of from p.id requests)
    else if is_release p.control then (Nothing, without from p.id requests)
    else (Nothing, requests)

-- the request waits for an answer
abbrev pub waits : Option Request → Bool
waits None = false
waits (Some r) = not (is_some r.answer)

-- the parts that the request asks for, as a bitmap
abbrev pub asked_by : Option Request → ℕ
asked_by None = 0
asked_by (Some r) = r.asked

-- the answer that is kept for the request, if any
abbrev pub kept : Option Request → Option (List AnswerPart)
kept None = None
kept (Some r) = r.answer

-- the parts of an answer, or none
abbrev pub parts_or_none : Option (List AnswerPart) → List AnswerPart
parts_or_none None = []
parts_or_none (Some parts) = parts

-- the requests after one was answered: the answer to an exactly-once request is kept, another request is removed
abbrev pub answered : Peer → ℕ → List AnswerPart → List Request → List Request
answered from id parts requests = after (request_of from id requests)
  where
    after : Option Request → List Request
    after None = requests
    after (Some r) = if r.once then with_first (is_of from id) (with_answer parts) requests else without from id requests

-- the kept answer has at most one tick left
abbrev pub is_over : Request → Bool
is_over r = is_some r.answer && nat_le r.left 1

-- the request after one tick
abbrev pub older : Request → Request
older r = if is_some r.answer then record r { left = r.left - 1 } else r

-- the requests after a tick: kept answers whose time is over are removed
abbrev pub ticked : List Request → List Request
ticked requests = map older (filter (λ r. not (is_over r)) requests)

-- ---- the invariant of a responder's requests

-- the kept answer, if any, is valid
abbrev pub may_be_sent : Option (List AnswerPart) → Bool
may_be_sent None = true
may_be_sent (Some parts) = is_answer parts

-- The request has a release time of at most 2,400 ticks, at most that many are left, and its answer is valid.
abbrev pub is_sound : Request → Bool
is_sound r = nat_le r.release 2400 && nat_le r.left r.release && may_be_sent r.answer

-- no two requests have the same asker and ID
abbrev pub are_apart : List Request → Bool
are_apart [] = true
are_apart (r ∷ requests) = not (list_any (is_of r.from r.id) requests) && are_apart requests

-- The invariant of a responder's requests: at most 64 of each kind, no two with the same asker and ID, and each is
-- sound.
pub record IsRequests (requests : List Request) : Type 0 where
  pub once : of_kind true requests ≤ 64
  pub other : of_kind false requests ≤ 64
  pub apart : IsTrue (are_apart requests)
  pub sound : IsTrue (list_all is_sound requests)
