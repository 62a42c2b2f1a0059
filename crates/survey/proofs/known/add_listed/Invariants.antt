use Rattle.std.proofs.Common.{◌≡◌, fold}
use Rattle.survey.specs.Known.{with_zone}
use Rattle.survey.proofs.known.add_listed.Given as goal

-- learning what is left gives the whole result
abbrev pub invariant-loop-name : goal.invariant-loop-name
invariant-loop-name l = fold (λ known name. with_zone name known) l.zones l.name-iterator ≡ fold (λ known name. with_zone name known) l.initial.zones l.fn.names
