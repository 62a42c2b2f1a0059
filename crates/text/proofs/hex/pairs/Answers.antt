use Rattle.std.proofs.Common.{sym, ap, ◌∙◌}
use Rattle.text.specs.Words.{pairs}
use Rattle.text.proofs.Pairs.{after, after_one_more}
use Rattle.text.proofs.hex.pairs.Goals as goal

pub loop-rest-preserved : goal.loop-rest-preserved
loop-rest-preserved c =
    let rest = pairs c.in-Some.more.now in
    c.loop-rest.invariant ∙ ap (after c.loop-rest.bytes.items) c.in-Some.ensures.some
    ∙ after_one_more c.loop-rest.bytes.items c.in-Some.byte rest
    ∙ ap (λ l. after l rest) (sym c.in_ok-push.ensures.items)
