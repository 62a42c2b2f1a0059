use Rattle.std.proofs.Common.{◌≡◌, take}
use Rattle.std.specs.Vec.{vec_capacity}
use Rattle.rtmp.specs.Indexing.{numbers_of}
use Rattle.rtmp.proofs.index.number_all.Given as goal

abbrev pub invariant-loop-row : goal.invariant-loop-row
invariant-loop-row l =
    (l.numbers.items ≡ numbers_of (take l.row-index l.rows)) × (vec_capacity l.numbers ≡ vec_capacity l.initial.numbers)
