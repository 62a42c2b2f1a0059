use Rattle.std.proofs.Common.{◌∙◌, subst, sym}
use Rattle.at_base.specs.Spelling.{IsValue}
use Rattle.freeze.proofs.Values.{no_mappings_value}
use Rattle.table_image.specs.Spelling.{mappings_spelling}
use Rattle.freeze.proofs.mappings.mappings_of.Goals as goal

pub returns-in-V1-clause-valid : goal.returns-in-V1-clause-valid
returns-in-V1-clause-valid c = λ few.
    subst (λ ms. IsValue (mappings_spelling c.args.version) ms) (sym (c.from_vec.ensures ∙ c.new.ensures.items))
    (no_mappings_value c.args.version)

pub returns-in-None-clause-valid : goal.returns-in-None-clause-valid
returns-in-None-clause-valid c = λ few.
    subst (λ ms. IsValue (mappings_spelling c.args.version) ms) (sym (c.from_vec-in-None.ensures ∙ c.new-in-None.ensures.items))
    (no_mappings_value c.args.version)
