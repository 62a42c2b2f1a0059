use Rattle.std.proofs.Common.{◌≡◌, ◌≤◌, ◌∙◌, ap, map, subst, sym}
use Rattle.std.proofs.lemmas.List.Elements.{recursion_from_All}
use Rattle.std.proofs.lemmas.Result.{IfOk-weaker}
use Rattle.aarp.specs.Mapping.{FitsMapping}
use Rattle.at_base.specs.Limits.{max_mappings}
use Rattle.at_base.specs.Spelling.{IsValue}
use Rattle.freeze.proofs.Values.{mappings_value}
use Rattle.freeze.specs.Freezing.{frozen_mapping}
use Rattle.table_image.specs.Spelling.{mappings_spelling}
use Rattle.table_image.specs.declared.version.Version.TheVariants.{V2}
use Rattle.freeze.proofs.mappings.all_of.Goals as goal

pub returns-clause-valid : goal.returns-clause-valid
returns-clause-valid c few =
    let known = c.in_ok-known.known.items in
    let number = c.in_ok-known.ensures.number in
    let value = mappings_value known (subst (λ n. n ≤ max_mappings) (sym number) few) c.in_ok-known.ensures.rises
    (recursion_from_All FitsMapping known c.in_ok-known.ensures.fits) in
    IfOk-weaker c.frozen_of.result (λ all. all.items ≡ map frozen_mapping c.as_slice.result.now)
    (λ all. IsValue (mappings_spelling V2) all.items)
    (λ all is. subst (IsValue (mappings_spelling V2)) (sym (is ∙ ap (map frozen_mapping) c.as_slice.ensures.value)) value) c.frozen_of.ensures.ok
