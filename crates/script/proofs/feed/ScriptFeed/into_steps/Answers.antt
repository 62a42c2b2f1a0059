use Rattle.std.proofs.Common.{◌∙◌, ap, sym}
use Rattle.std.proofs.lemmas.Result.{err_from_is_err_and}
use Rattle.script.specs.Feeds.{Fed}
use Rattle.script.proofs.Feeding.{goes_on_is, refusal_is, refused_whole}
use Rattle.script.proofs.Progress.{stop_at}
use Rattle.script.proofs.feed.ScriptFeed.into_steps.Goals as goal

pub returns-in-Some-clause-refused : goal.returns-in-Some-clause-refused
returns-in-Some-clause-refused c = λ all h.
    refused_whole c.in-Some.error all
    (refusal_is c.args.self all c.in-Some.error (ap (λ (f : Fed). f.refused) (sym c.self.view_is) ∙ c.in-Some.is) h)

pub returns-in_err-finish-clause-refused : goal.returns-in_err-finish-clause-refused
returns-in_err-finish-clause-refused c =
    let p = err_from_is_err_and c.from_residual.result c.from_residual.ensures.1 in
    let inside = c.self.inside in
    let feed : Fed = record { reader = inside.reader; open_line = inside.open_line; refused = inside.refused } in
    rw (p.1, p.2) (λ all h.
    let g = goes_on_is feed all c.in_default.is (rw (← c.self.view_is) at h) in
    stop_at all g.done g.last _ _ g.whole g.read.fine (c.in_err-finish.ensures.stops g.last g.kept g.done g.read))
