use Rattle.std.proofs.Common.{◌≡◌, ◌∷◌, ap, ◌∙◌}
use Rattle.std.proofs.lemmas.Result.{err_from_is_err_and}
use Rattle.text.specs.Cuts.{parts_left}
use Rattle.script.specs.Scripts.{lines}
use Rattle.script.proofs.Progress.{line_read, stopped_at}
use Rattle.script.proofs.reader.Reader.read_lines.Goals as goal

pub returns-in_err-read_line-clause-stops : goal.returns-in_err-read_line-clause-stops
returns-in_err-read_line-clause-stops c =
    let p = err_from_is_err_and c.from_residual.result c.from_residual.ensures.1 in
    let line = c.cut.result.0.now in
    let cut : lines c.loop-rest.left.now ≡ line ∷ lines c.in-Some.rest.now =
    c.cut.ensures.parts ∙ ap (λ o. line ∷ parts_left 10 o) c.in-Some.is in
    rw (p.1, p.2) (λ done h.
    stopped_at c.loop-rest.self done c.args.text.now c.loop-rest.left.now line c.in-Some.rest.now _ (c.loop-rest.invariant done h) cut
    c.in_err-read_line.ensures.stops)

pub loop-rest-preserved : goal.loop-rest-preserved
loop-rest-preserved c = λ done h.
    let line = c.cut.result.0.now in
    let cut : lines c.loop-rest.left.now ≡ line ∷ lines c.in-Some.rest.now =
    c.cut.ensures.parts ∙ ap (λ o. line ∷ parts_left 10 o) c.in-Some.is in
    line_read c.loop-rest.self c.read_line.new.self done c.args.text.now c.loop-rest.left.now line c.in-Some.rest.now
    (c.loop-rest.invariant done h) cut c.in_ok-read_line.ensures.read
