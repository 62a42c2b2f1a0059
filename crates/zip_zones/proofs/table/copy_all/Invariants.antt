use Rattle.std.proofs.Common.{◌≡◌, take}
use Rattle.zip_zones.proofs.table.copy_all.Given as goal

abbrev pub invariant-loop-known : goal.invariant-loop-known
invariant-loop-known l = l.copies.items ≡ take l.known-index l.lists
