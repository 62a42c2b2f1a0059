-- The requests for zones that a node sends again. (Inside AppleTalk, the chapters on ATP and ZIP)
use Rattle.std.specs.Prelude.{◌≡◌, ℕ, List, [], map, Option, Some, None}
use Rattle.std.specs.Option.{option_map}
use Rattle.at_base.specs.declared.address.Addr.{Addr}
use Rattle.atp.specs.Repeating.{renewed, repeats}
use Rattle.atp.specs.Requesting.{Transactions, known}
use Rattle.atp.specs.declared.repeats.Repeat.{Repeat}
use Rattle.atp.specs.declared.transaction.Transaction.{Transaction}
use Rattle.end_node.specs.Asking.{way_to_router}
use Rattle.station.specs.Making.{made}
use Rattle.station.specs.declared.output.Output.{Output}

-- a request that is sent again from this address, as the first one was: from socket 252
abbrev pub repeated : Addr → Repeat → Output
repeated own r = made (way_to_router 3 r.to.socket 252 own r.to.addr) r.bytes

-- the requests that a tick makes due, by rising IDs of their transactions, if the node has an address
abbrev pub repeats_by : Option Addr → List (Option Transaction) → List Output
repeats_by None slots = []
repeats_by (Some own) slots = map (repeated own) (repeats slots)

-- The transactions of a node with this address, before and after a tick in which the requests that it makes due are
-- sent. Without an address, nothing changes.
abbrev pub AreRenewed : Option Addr → Transactions → Transactions → Type 0
AreRenewed None old new = new ≡ old
AreRenewed (Some own) old new =
    (new.next ≡ old.next) × ((id : ℕ) → known id new.slots ≡ option_map renewed (known id old.slots))
