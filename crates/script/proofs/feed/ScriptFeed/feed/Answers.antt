use Rattle.std.proofs.Common.{◌∙◌, ◌++◌, ap, sym}
use Rattle.script.specs.Feeds.{Fed}
use Rattle.script.proofs.Feeding.{is_refusal, refusal_is, refused_more}
use Rattle.script.proofs.feed.ScriptFeed.feed.Goals as goal

pub returns-in-Some-clause-read : goal.returns-in-Some-clause-read
returns-in-Some-clause-read c = λ all h.
    let was = ap (λ (f : Fed). f.refused) (sym c.self.view_is) ∙ c.in-Some.is in
    is_refusal c.args.self.now (all ++ c.args.piece.now) c.in-Some.error was
    (refused_more c.in-Some.error all c.args.piece.now (refusal_is c.args.self.now all c.in-Some.error was h))

pub returns-in-Some-clause-refused : goal.returns-in-Some-clause-refused
returns-in-Some-clause-refused c = λ all h.
    let was = ap (λ (f : Fed). f.refused) (sym c.self.view_is) ∙ c.in-Some.is in
    refused_more c.in-Some.error all c.args.piece.now (refusal_is c.args.self.now all c.in-Some.error was h)
