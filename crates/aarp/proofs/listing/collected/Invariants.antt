use Rattle.std.proofs.Common.{◌≡◌, ◌++◌, All}
use Rattle.aarp.specs.Mapping.{FitsMapping}
use Rattle.aarp.proofs.listing.collected.Given as goal

-- the mappings so far and those that are left are all, and each one so far fits
abbrev pub invariant-loop-addr : goal.invariant-loop-addr
invariant-loop-addr l = (l.all.items ++ l.addr-iterator ≡ l.known.entries) × All FitsMapping l.all.items
