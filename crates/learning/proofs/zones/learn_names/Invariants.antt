use Rattle.std.proofs.Common.{◌≡◌, fold}
use Rattle.zip_zones.specs.Answers.{after_name}
use Rattle.learning.proofs.zones.learn_names.Given as goal

-- learning the names that are left gives the whole result
abbrev pub invariant-loop-entry : goal.invariant-loop-entry
invariant-loop-entry g l =
    let learn = after_name (g.T.RouteTable.rows l.routes) l.total in
    fold learn l.zones l.entry-iterator ≡ fold learn l.initial.zones l.fn.entries
