use Rattle.std.proofs.Common.{◌≡◌, drop, find}
use Rattle.table_image.specs.Directory.{has_hardware}
use Rattle.table_image.proofs.directory.with_hardware.Given as goal

abbrev pub invariant-loop-place : goal.invariant-loop-place
invariant-loop-place l =
    find (has_hardware l.hw) (drop l.place-index l.places) ≡ find (has_hardware l.hw) l.places
