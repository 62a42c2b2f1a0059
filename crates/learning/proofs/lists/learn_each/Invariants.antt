use Rattle.std.proofs.Common.{fold}
use Rattle.zip_zones.specs.Answers.{after_list, networks_named}
use Rattle.learning.proofs.Named.{Left}
use Rattle.learning.proofs.lists.learn_each.Given as goal

-- learning the networks that are left gives the whole result
abbrev pub invariant-loop-index : goal.invariant-loop-index
invariant-loop-index g l =
    let learn = after_list (g.T.RouteTable.rows l.routes) l.entries in
    Left learn l.entries l.index l.zones (fold learn l.initial.zones (networks_named l.entries))
