use Rattle.std.proofs.Common.{◌≡◌, length}
use Rattle.rtmp.specs.Data.{tuples_heard}
use Rattle.rtmp.proofs.data.TuplesIterator.next.Given as goal

abbrev pub invariant-loop-written : goal.invariant-loop-written
invariant-loop-written l =
    (tuples_heard l.initial.self-inside.nonextended l.initial.self-inside.written ≡ tuples_heard l.self-inside.nonextended l.self-inside.written)
    × (l.initial.self-inside.nonextended ≡ l.self-inside.nonextended)

abbrev pub decreases-loop-written : goal.decreases-loop-written
decreases-loop-written l = length l.self-inside.written
