-- Outcomes of transactions. (Inside AppleTalk, the chapter on ATP)
use Rattle.std.specs.Prelude.{Option, Some, None, if◌then◌else◌}
use Rattle.atp.specs.declared.transaction.Transaction.{Transaction}
use Rattle.atp.specs.declared.outcome.Outcome.{Outcome}
use Rattle.atp.specs.declared.outcome.Outcome.TheVariants.{Waiting, Complete, Failed}
use Rattle.atp.specs.Requesting.{is_complete, is_waiting, parts_of}

-- the outcome of a transaction: failed, complete or waiting
abbrev pub outcome_of : Transaction → Outcome
outcome_of t = if t.failed then Failed else if is_complete t then Complete (parts_of t) else Waiting

-- the transaction after its outcome was returned: it stays open only if it waits
abbrev pub left_open : Option Transaction → Option Transaction
left_open None = None
left_open (Some t) = if is_waiting t then Some t else None
