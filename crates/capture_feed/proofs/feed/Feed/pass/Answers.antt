use Rattle.std.proofs.Common.{◌∙◌, ◌++◌, Option, ap, sym}
use Rattle.capture_feed.proofs.Passed.{passed_by_none, passed_on, standing}
use Rattle.capture_feed.specs.Feeds.{Fed}
use Rattle.capture_feed.specs.declared.passing.Passing.{Passing}
use Rattle.capture_feed.proofs.feed.Feed.pass.Goals as goal

pub returns-in-Ok-clause-passed : goal.returns-in-Ok-clause-passed
returns-in-Ok-clause-passed c =
    let f = c.self.inside in
    passed_on c.args.self.now.at f.section c.in-Some.before f.blocks (sym (ap (λ (fed : Fed). fed.at) c.self.view_is)
    ∙ ap (λ (q : Option Passing). standing f.section q f.blocks) c.in-Some.is)
    (c.args.self.now.kept ++ c.args.piece.now) (f.kept.items ++ c.args.piece.now)
    (sym (ap (λ (fed : Fed). fed.kept ++ c.args.piece.now) c.self.view_is)) c.in-Ok.rest _ _ c.in-Ok.ensures.passed

pub returns-in-Err-clause-passed : goal.returns-in-Err-clause-passed
returns-in-Err-clause-passed c =
    let f = c.self.inside in
    passed_by_none c.args.self.now.at f.section c.in-Some.before f.blocks (sym (ap (λ (fed : Fed). fed.at) c.self.view_is)
    ∙ ap (λ (q : Option Passing). standing f.section q f.blocks) c.in-Some.is)
    (c.args.self.now.kept ++ c.args.piece.now) (f.kept.items ++ c.args.piece.now)
    (sym (ap (λ (fed : Fed). fed.kept ++ c.args.piece.now) c.self.view_is)) c.in-Err.fault c.in-Err.ensures.passed
