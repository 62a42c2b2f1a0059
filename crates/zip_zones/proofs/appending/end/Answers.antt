use Rattle.std.proofs.Common.{sym, ap, ◌∙◌}
use Rattle.std.specs.Option.{option_copied}
use Rattle.at_base.specs.Range.{Span}
use Rattle.zip_zones.proofs.Appended.{end_found}
use Rattle.zip_zones.proofs.appending.end.Goals as goal

pub returns-in-Some : goal.returns-in-Some
returns-in-Some c =
    let there = sym c.last.ensures.value ∙ ap option_copied c.in-Some.is in
    c.end.ensures.value ∙ ap (λ (s : Span). s.end) c.range.ensures ∙ end_found 0 c.args.lists.now c.in-Some.known.now there
