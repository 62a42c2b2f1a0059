use Rattle.std.proofs.Common.{ℕ, List, length}
use Rattle.script.specs.Feeds.{HasLines}
use Rattle.script.proofs.Progress.{ReadsUpTo}
use Rattle.script.proofs.reader.Reader.read_lines.Given as goal

abbrev pub invariant-loop-rest : goal.invariant-loop-rest
invariant-loop-rest l = (done : List (List ℕ)) → HasLines l.fn.self done → ReadsUpTo l.self done l.text l.left

abbrev pub decreases-loop-rest : goal.decreases-loop-rest
decreases-loop-rest l = length l.left
