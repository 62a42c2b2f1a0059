-- Reads entries one after the other, as a loop does.
use Rattle.std.proofs.Common.{ℕ, ◌+◌, List, ◌++◌, length, Result, Ok, Err}

-- The entries that were read before, followed by those that are still to be read.
abbrev pub with_front : {T : Type 0} → List T → Result (List T) ℕ → Result (List T) ℕ
with_front done (Ok xs) = Ok (done ++ xs)
with_front done (Err k) = Err (length done + k)
