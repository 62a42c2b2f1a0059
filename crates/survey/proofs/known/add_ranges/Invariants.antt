use Rattle.std.proofs.Common.{◌≡◌, fold}
use Rattle.survey.specs.Known.{with_tuple}
use Rattle.survey.proofs.known.add_ranges.Given as goal

-- learning what is left gives the whole result
abbrev pub invariant-loop-tuple : goal.invariant-loop-tuple
invariant-loop-tuple l = fold with_tuple l.ranges l.tuple-iterator ≡ fold with_tuple l.initial.ranges l.fn.tuples
