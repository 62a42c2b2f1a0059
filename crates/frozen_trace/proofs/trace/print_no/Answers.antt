use Rattle.std.proofs.Common.{◌≡◌, ◌++◌, ◌∷◌, [], List, ℕ, subst, ◌∙◌}
use Rattle.std.specs.Io.KnownBytes.{Appends}
use Rattle.audit.specs.Verdicts.{verdict_line}
use Rattle.audit.specs.declared.verdict.Verdict.TheVariants.{No}
use Rattle.text.proofs.Going.{appends_then, on_ok}
use Rattle.frozen_trace.proofs.trace.print_no.Goals as goal

pub returns-clause-printed : goal.returns-clause-printed
returns-clause-printed g c =
    let text = c.args.output.now.text.items in
    let line_is : c.as_bytes.result.now ≡ verdict_line (No c.args.fault) = c.as_bytes.ensures.value ∙ c.in_ok-line.ensures.ok in
    on_ok c.write_line.result c.write_line.ensures.ok (λ wrote.
    subst (λ (l : List ℕ). Appends (g.W.Write.contents c.args.output.now.writer) (g.W.Write.contents c.write_line.new.self.writer)
    (text ++ (l ++ 10 ∷ []))) line_is
    (appends_then _ (g.W.Write.contents c.flush.new.self.writer) _ text (c.as_bytes.result.now ++ 10 ∷ [])
    c.in_ok-flush.ensures.ok wrote))
