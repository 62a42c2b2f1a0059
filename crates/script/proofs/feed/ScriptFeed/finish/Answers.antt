use Rattle.script.specs.Feeds.{HasRead}
use Rattle.script.proofs.Feeding.{bad_line, good_text}
use Rattle.script.proofs.feed.ScriptFeed.finish.Goals as goal

pub returns-clause-bad : goal.returns-clause-bad
returns-clause-bad c =
    bad_line (HasRead c.args.self) (λ v. v.items) c.into_steps.result c.into_steps.ensures.script c.into_steps.ensures.refused

pub returns-clause-good : goal.returns-clause-good
returns-clause-good c = good_text (HasRead c.args.self) c.into_steps.result c.into_steps.ensures.refused
