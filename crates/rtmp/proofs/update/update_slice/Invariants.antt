use Rattle.std.proofs.Common.{◌≡◌, ◌++◌, map, take, drop}
use Rattle.rtmp.specs.Updates.{updated}
use Rattle.rtmp.proofs.update.update_slice.Given as goal

abbrev pub invariant-loop-row : goal.invariant-loop-row
invariant-loop-row l = l.rows ≡ map (updated l.update) (take l.row-index l.initial.rows) ++ drop l.row-index l.initial.rows
