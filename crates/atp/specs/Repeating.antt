-- The requests that a tick makes due, which are sent again in it. (Inside AppleTalk, the chapter on ATP)
use Rattle.std.specs.Prelude.{ℕ, ◌≤◌, zero, suc, length, Bool, List, [], ◌++◌, Option, Some, None, if◌then◌else◌, option_to_list}
use Rattle.std.specs.List.{All}
use Rattle.at_base.specs.Spelling.{bytes_of}
use Rattle.atp.specs.Packets.{packet}
use Rattle.atp.specs.Requesting.{is_due, known, request_of, sent, ticked}
use Rattle.atp.specs.declared.repeats.Repeat.{Repeat}
use Rattle.atp.specs.declared.repeats.Step.{Step}
use Rattle.atp.specs.declared.repeats.Step.TheVariants as step
use Rattle.atp.specs.declared.transaction.Transaction.{Transaction}
use Rattle.atp.specs.declared.repeats.When.{When}
use Rattle.atp.specs.declared.repeats.When.TheVariants as when
use Rattle.at_base.specs.Limits.{max_data}

-- the request of the transaction is due now, or after one more tick
abbrev pub is_due_by : When → Transaction → Bool
is_due_by when.Now t = is_due t
is_due_by when.NextTick t = is_due (ticked t)

-- the transaction after its request was sent, if it was due
abbrev pub sent_if_due : Transaction → Transaction
sent_if_due t = if is_due t then sent t else t

-- the transaction after a tick in which its request, if it is due then, is sent
abbrev pub renewed : Transaction → Transaction
renewed t = sent_if_due (ticked t)

-- the transaction after a tick, in which its request is sent or only becomes due
abbrev pub stepped : Step → Transaction → Transaction
stepped step.Tick t = ticked t
stepped step.Renew t = renewed t

-- the request of a transaction and the socket that it goes to
abbrev pub repeat_of : Transaction → Repeat
repeat_of t = record { to = record { addr = t.ask.to; socket = t.ask.socket }; bytes = bytes_of packet (request_of t) }

-- the request of a transaction, if the transaction is open and the next tick makes its request due
abbrev pub repeat_in : Option Transaction → Option Repeat
repeat_in None = None
repeat_in (Some t) = if is_due (ticked t) then Some (repeat_of t) else None

-- the requests that the next tick makes due, for this number of IDs from the first on, in order
abbrev pub repeats_from : ℕ → ℕ → List (Option Transaction) → List Repeat
repeats_from first zero slots = []
repeats_from first (suc more) slots = option_to_list (repeat_in (known first slots)) ++ repeats_from (suc first) more slots

-- the requests that the next tick makes due, by rising IDs
unfoldable pub repeats : List (Option Transaction) → List Repeat
repeats slots = repeats_from 0 65536 slots

-- each request fits into a datagram
abbrev pub AreShort : List Repeat → Type 0
AreShort repeats = All (λ r. length r.bytes ≤ max_data) repeats
