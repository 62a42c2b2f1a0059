use Rattle.std.proofs.Common.{◌∙◌}
use Rattle.audit.proofs.SameZones.{fold_all}
use Rattle.audit.proofs.zone_sets.are_all.Goals as goal

pub returns : goal.returns
returns c = c.fold_all.ensures ∙ fold_all c.args.marks.now
