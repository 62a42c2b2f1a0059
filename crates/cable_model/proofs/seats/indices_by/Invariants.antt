use Rattle.std.proofs.Common.{◌≡◌, ◌++◌, drop}
use Rattle.cable_model.specs.Places.{has_key, indices}
use Rattle.cable_model.proofs.seats.indices_by.Given as goal

abbrev pub invariant-loop-index : goal.invariant-loop-index
invariant-loop-index l =
    l.items.items ++ indices (has_key l.key) l.index (drop l.index l.seats) ≡ indices (has_key l.key) 0 l.seats
