use Rattle.std.proofs.Common.{◌≢◌, List, ℕ, Result, Ok, Err, IfErr}
use Rattle.at_base.specs.declared.error.Error.TheVariants.{Full, ReadFault, WriteFault}
use Rattle.file_entries.specs.declared.faults.Refused.{Refused}
use Rattle.internet_file.specs.Files.{IsFileRefused}
use Rattle.playing.proofs.Faults.{IsOther, other_fault}
use Rattle.playing.proofs.reading.read_plan.Goals as goal

others : {T : Type 0} (text : List ℕ) (r : Result T Refused) → IfErr r (λ x. IsFileRefused text x.error) → IfErr r (λ x. IsOther x.error)
others text (Ok plan) refused = tt
others text (Err x) refused = other_fault text x.error refused

neither : {T : Type 0} (r : Result T Refused) → IfErr r (λ x. IsOther x.error) → IfErr r (λ x. (x.error ≢ ReadFault) × (x.error ≢ WriteFault))
neither (Ok plan) h = tt
neither (Err x) h = (h.0, h.1)

not_full : {T : Type 0} (r : Result T Refused) → IfErr r (λ x. IsOther x.error) → IfErr r (λ x. x.error ≢ Full)
not_full (Ok plan) h = tt
not_full (Err x) h = h.2

pub returns-clause-others : goal.returns-clause-others
returns-clause-others c = neither c.read.result (others c.args.text.now c.read.result c.read.ensures.refused)

pub returns-clause-not_full : goal.returns-clause-not_full
returns-clause-not_full c = not_full c.read.result (others c.args.text.now c.read.result c.read.ensures.refused)
