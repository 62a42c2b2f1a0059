use Rattle.std.proofs.Common.{IsTrue, subst, sym}
use Rattle.std.proofs.lemmas.Result.{on_err_weaker, on_ok_weaker}
use Rattle.live_cables.proofs.Losses.{all_between_gone, all_between_lost, first_between_due, first_between_lost, gone_none, none_between}
use Rattle.live_cables.proofs.Losses.{rest_between_due}
use Rattle.live_cables.specs.Steps.{are_gone, line_losses, loses_by}
use Rattle.live_cables.proofs.losing.+lose_between.Goals as goal

-- No entry is between the indices.
pub returns-then-from-end-clause-gone : goal.returns-then-from-end-clause-gone
returns-then-from-end-clause-gone t c =
    subst (λ ls. IsTrue (are_gone (line_losses (loses_by c.args.losing.now) ls) c.args.cables.now))
    (sym (none_between c.args.cables.now.lines c.args.from c.args.end c.if-from-end.true)) (gone_none c.args.cables.now)

pub returns-in-Err-clause-loses : goal.returns-in-Err-clause-loses
returns-in-Err-clause-loses t c =
    first_between_lost (loses_by c.args.losing.now) c.args.cables.now c.lose_at.new.cables c.args.from c.args.end c.if-from-end.false
    c.requires c.lose_at.ensures.further c.lose_at.ensures.loses

pub returns-clause-loses : goal.returns-clause-loses
returns-clause-loses t c =
    all_between_lost (loses_by c.args.losing.now) c.args.cables.now c.lose_at.new.cables c.args.from c.args.end c.if-from-end.false
    c.requires c.lose_at.ensures.further c.lose_at.ensures.loses c.lose_between.new.cables c.lose_between.ensures.loses

pub returns-clause-gone : goal.returns-clause-gone
returns-clause-gone t c =
    on_ok_weaker c.lose_between.result
    (all_between_gone (loses_by c.args.losing.now) c.args.cables.now c.lose_at.new.cables c.args.from c.args.end c.if-from-end.false
    c.requires c.lose_at.ensures.further c.lose_at.ensures.loses c.lose_between.new.cables c.in-Ok.ensures.gone c.lose_between.ensures.loses)
    c.lose_between.ensures.gone

pub returns-in-Err-clause-due : goal.returns-in-Err-clause-due
returns-in-Err-clause-due t c =
    first_between_due (loses_by c.args.losing.now) c.args.cables.now c.lose_at.new.cables c.args.from c.args.end c.if-from-end.false
    c.requires c.lose_at.ensures.further c.lose_at.ensures.loses c.in-Err.ensures.due

pub returns-clause-due : goal.returns-clause-due
returns-clause-due t c =
    on_err_weaker c.lose_between.result
    (rest_between_due (loses_by c.args.losing.now) c.args.cables.now c.lose_at.new.cables c.args.from c.args.end c.if-from-end.false
    c.requires c.lose_at.ensures.further c.lose_at.ensures.loses c.lose_between.new.cables)
    c.lose_between.ensures.due
