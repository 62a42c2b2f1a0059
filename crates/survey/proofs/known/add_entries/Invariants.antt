use Rattle.std.proofs.Common.{◌≡◌, fold}
use Rattle.survey.specs.Answers.{zones_of}
use Rattle.survey.specs.Known.{with_zone}
use Rattle.survey.proofs.known.add_entries.Given as goal

-- learning what is left gives the whole result
abbrev pub invariant-loop-entry : goal.invariant-loop-entry
invariant-loop-entry l = fold (λ known name. with_zone name known) l.zones (zones_of l.net l.entry-iterator) ≡ fold (λ known name. with_zone name known) l.initial.zones (zones_of l.net l.fn.entries)
