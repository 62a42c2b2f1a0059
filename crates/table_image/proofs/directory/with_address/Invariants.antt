use Rattle.std.proofs.Common.{◌≡◌, drop, find}
use Rattle.table_image.specs.Directory.{has_address}
use Rattle.table_image.proofs.directory.with_address.Given as goal

abbrev pub invariant-loop-place : goal.invariant-loop-place
invariant-loop-place l = find (has_address l.addr) (drop l.place-index l.places) ≡ find (has_address l.addr) l.places
