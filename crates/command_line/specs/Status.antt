-- Exit statuses.
use Rattle.std.specs.Prelude.{ℕ, Bool, true, false, Result, Ok, Err}
use Rattle.at_base.specs.declared.error.Error.{Error}
use Rattle.at_base.specs.declared.error.Error.TheVariants.{Memory, ReadFault, WriteFault}

-- The exit status of a result: 0 if the image passes the audit, 1 if it fails, 3 if memory, reading or writing failed,
-- and 2 for any other error.
abbrev pub status_of : Result Bool Error → ℕ
status_of (Ok true) = 0
status_of (Ok false) = 1
status_of (Err Memory) = 3
status_of (Err ReadFault) = 3
status_of (Err WriteFault) = 3
status_of (Err e) = 2
