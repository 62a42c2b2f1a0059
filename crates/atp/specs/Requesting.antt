-- A requester: its open transactions, by their IDs. (Inside AppleTalk, the chapter on ATP)
use Rattle.std.specs.Prelude.{◌≡◌, ℕ, ◌+◌, ◌-◌, ◌%◌, ◌<◌, ◌≤◌, Bool, true, false, not, ◌&&◌, ◌==◌, List, [], ◌∷◌, ◌++◌, length, map, take}
use Rattle.std.specs.Prelude.{drop, filter_map, Option, Some, None, slice_set, slice_index_or, count_by, is_some, nat_lt, if◌then◌else◌}
use Rattle.std.specs.List.{list_any, IsDistinct}
use Rattle.at_base.specs.Address.{same_address}
use Rattle.atp.specs.declared.ask.Ask.{Ask}
use Rattle.atp.specs.declared.ask.Peer.{Peer}
use Rattle.atp.specs.declared.ask.AnswerPart.{AnswerPart}
use Rattle.atp.specs.declared.transaction.Transaction.{Transaction}
use Rattle.atp.specs.Bitmaps.{first_parts, bitmap}
use Rattle.at_base.specs.Spelling.{bytes_of}
use Rattle.atp.specs.Packets.{AtpPacket, packet, is_response, is_end, wants_status}

-- The state of an open transaction has its request and the socket that it goes to; which parts are missing; the parts
-- received; whether the request is due, and otherwise the number of ticks until it is; the number of requests that may
-- still be sent; and whether the transaction was given up.

-- none of the eight parts
abbrev pub no_parts : List (Option AnswerPart)
no_parts = None ∷ None ∷ None ∷ None ∷ None ∷ None ∷ None ∷ None ∷ []

-- a new transaction
abbrev pub begun : ℕ → Ask → Transaction
begun id ask = record {
  id = id;
  ask = ask;
  missing = first_parts ask.parts;
  came = no_parts;
  due = true;
  wait = 0;
  tries = ask.tries;
  failed = false;
}

-- no part of the transaction is missing
abbrev pub is_complete : Transaction → Bool
is_complete t = not (list_any (λ b. b) t.missing)

-- the transaction waits for parts
abbrev pub is_waiting : Transaction → Bool
is_waiting t = not t.failed && not (is_complete t)

-- the request of the transaction is due
abbrev pub is_due : Transaction → Bool
is_due t = is_waiting t && t.due

-- the control byte of a request: 40 (hex), or for an exactly-once request 60 plus the release time
abbrev pub request_control : Ask → ℕ
request_control ask = if ask.exactly_once then 0x60 + ask.release else 0x40

-- the request of a transaction, for the parts that are missing
abbrev pub request_of : Transaction → AtpPacket
request_of t = record { control = request_control t.ask; part = bitmap t.missing; id = t.id; user = t.ask.user; payload = t.ask.payload }

-- the transaction after its request was sent
abbrev pub sent : Transaction → Transaction
sent t = record t { due = false; wait = t.ask.every; tries = t.tries - 1 }

-- the transaction after a tick: the request becomes due again, or after the last one the transaction fails
abbrev pub ticked : Transaction → Transaction
ticked t =
    if not (is_waiting t) then t
    else if t.due then t
    else if nat_lt 1 t.wait then record t { wait = t.wait - 1 }
    else if nat_lt 0 t.tries then record t { due = true; wait = 0 }
    else record t { failed = true; wait = 0 }

-- the first n elements, and none in place of each of the others
abbrev pub cut : {X : Type 0} → X → ℕ → List X → List X
cut none n xs = take n xs ++ map (λ x. none) (drop n xs)

-- the part that a packet carries
abbrev pub part_of : AtpPacket → AnswerPart
part_of p = record { user = p.user; payload = p.payload }

-- the transaction after a part came: it is kept if it was missing
abbrev pub with_part : AtpPacket → Transaction → Transaction
with_part p t =
    if slice_index_or t.missing p.part false
    then record t { missing = slice_set t.missing p.part false; came = slice_set t.came p.part (Some (part_of p)) }
    else t

-- the transaction after a part came: if it is marked as the end, nothing after it is missing
abbrev pub with_end : AtpPacket → Transaction → Transaction
with_end p t = if is_end p.control then record t { missing = cut false (p.part + 1) t.missing; came = cut None (p.part + 1) t.came } else t

-- the transaction after a part came: if the responder asks for the request again, it is due at once, while requests may
-- be sent
abbrev pub with_status : AtpPacket → Transaction → Transaction
with_status p t = if wants_status p.control && is_waiting t && nat_lt 0 t.tries then record t { due = true } else t

-- the packet is a response from the socket that the request went to, for a part that it asked for
abbrev pub answers : Peer → AtpPacket → Transaction → Bool
answers from p t =
    is_response p.control && p.id == t.id && same_address from.addr t.ask.to && from.socket == t.ask.socket && nat_lt p.part t.ask.parts

-- the transaction accepts the packet: it waits, and the packet answers its request
abbrev pub is_heard : Peer → AtpPacket → Transaction → Bool
is_heard from p t = is_waiting t && answers from p t

-- the transaction after a packet was received
abbrev pub after_hearing : Peer → AtpPacket → Transaction → Transaction
after_hearing from p t = if is_heard from p t then with_status p (with_end p (with_part p t)) else t

-- the parts of a complete response
abbrev pub parts_of : Transaction → List AnswerPart
parts_of t = filter_map (λ part. part) t.came

-- the release of a transaction, sent after a complete response to an exactly-once request
abbrev pub release_of : Transaction → AtpPacket
release_of t = record { control = 0xC0; part = 0; id = t.id; user = 0 ∷ 0 ∷ 0 ∷ 0 ∷ []; payload = [] }

-- the packet completes an exactly-once transaction
abbrev pub releases : Peer → AtpPacket → Transaction → Bool
releases from p t = is_heard from p t && is_complete (after_hearing from p t) && t.ask.exactly_once

-- a valid request: 1 to 8 parts, a release time of three bits, and at least one try and one tick
pub record IsAsk (ask : Ask) : Type 0 where
  pub some : 1 ≤ ask.parts
  pub few : ask.parts ≤ 8
  pub every : 1 ≤ ask.every
  pub tries : 1 ≤ ask.tries
  pub release : ask.release ≤ 7

-- a request that fits into a packet: at most 8 parts, a release time of three bits, and at most 578 bytes of data
pub record IsSendable (ask : Ask) : Type 0 where
  pub few : ask.parts ≤ 8
  pub release : ask.release ≤ 7
  pub short : length ask.payload ≤ 578

-- the bytes of the release that is sent after a packet, if one is
abbrev pub release_for : Peer → AtpPacket → Option Transaction → Option (List ℕ)
release_for from p None = None
release_for from p (Some t) = if releases from p t then Some (bytes_of packet (release_of t)) else None

-- ---- a finite map by ID

-- the open transactions, in the slots of a slab, and the next number to try for an ID
pub record Transactions : Type 0 where
  pub next : ℕ
  pub slots : List (Option Transaction)

-- the transaction with an ID, if one is open
abbrev pub known : ℕ → List (Option Transaction) → Option Transaction
known id [] = None
known id (None ∷ slots) = known id slots
known id (Some t ∷ slots) = if t.id == id then Some t else known id slots

-- The ID of the next transaction: the first that isn't open, from a number upwards, and after 65,535 from 0.
abbrev pub IsNextId : ℕ → List (Option Transaction) → ℕ → Type 0
IsNextId first slots id =
    (steps : ℕ) × (id ≡ (first + steps) % 65536) × (known id slots ≡ None)
    × ((k : ℕ) → k < steps → (t : Transaction) × (known ((first + k) % 65536) slots ≡ Some t))

-- no two transactions have the same ID
abbrev pub AreApart : List (Option Transaction) → Type 0
AreApart slots =
    (j k : ℕ) (t u : Transaction) → slice_index_or slots j None ≡ Some t → slice_index_or slots k None ≡ Some u
    → t.id ≡ u.id → j ≡ k

-- The IDs are those of the open transactions, each once.
pub record AreOpen (slots : List (Option Transaction)) (ids : List ℕ) : Type 0 where
  pub each : (id : ℕ) → list_any (λ n. n == id) ids ≡ is_some (known id slots)
  pub once : IsDistinct ◌==◌ ids

-- the number of open transactions
abbrev pub open_count : List (Option Transaction) → ℕ
open_count slots = count_by is_some slots

-- the request of each open transaction fits into a packet
abbrev pub AllSendable : List (Option Transaction) → Type 0
AllSendable slots = (k : ℕ) (t : Transaction) → slice_index_or slots k None ≡ Some t → IsSendable t.ask

-- the transaction is open and passes a test
abbrev pub passes : (Transaction → Bool) → Option Transaction → Bool
passes test None = false
passes test (Some t) = test t

-- the transaction is open, and its request is due
abbrev pub is_due_in : Option Transaction → Bool
is_due_in t = passes is_due t

-- The transaction with this ID passes a test, and none does whose ID lies below it but not below the first.
pub record IsLeast (test : Transaction → Bool) (first : ℕ) (slots : List (Option Transaction)) (id : ℕ) : Type 0 where
  pub from : first ≤ id
  pub due : passes test (known id slots) ≡ true
  pub least : (other : ℕ) → first ≤ other → passes test (known other slots) ≡ true → id ≤ other

-- the request with this ID is due, and none with a lesser ID is
abbrev pub IsLeastDue : List (Option Transaction) → ℕ → Type 0
IsLeastDue slots id = IsLeast is_due 0 slots id
