use Rattle.std.proofs.Common.{◌≡◌, IsTrue, OnErr, OnOk, false, drop, length, take, sym, subst, ap, ◌∙◌}
use Rattle.std.proofs.Math.Seq.{take-length}
use Rattle.cable_model.specs.Logs.{transcript}
use Rattle.live_cables.proofs.Losses.{gone_none, nothing_lost, stamps_are}
use Rattle.live_cables.specs.Steps.{Loses, are_gone, line_losses, loses_by, losses_since}
use Rattle.live_cables.proofs.losing.lose_from.Goals as goal

pub returns-then-not-has_loss-clause-gone : goal.returns-then-not-has_loss-clause-gone
returns-then-not-has_loss-clause-gone c =
    subst (λ ss. IsTrue (are_gone ss c.args.cables.now))
    (sym
    (nothing_lost c.args.losing.now (drop c.args.from (transcript c.args.cables.now)) (sym c.has_loss.ensures ∙ c.if-not-has_loss.true)))
    (gone_none c.args.cables.now)

-- The stamps of the frames that were to be lost.
found : (c : goal.After-lose_between) → line_losses (loses_by c.args.losing.now) (drop c.args.from (take (length c.transcript-end.result.now) c.args.cables.now.lines))
    ≡ losses_since c.args.losing.now c.args.from c.args.cables.now
found c =
    let losing = loses_by c.args.losing.now in
    ap (λ ls. line_losses losing (drop c.args.from (take (length ls) c.args.cables.now.lines))) c.transcript-end.ensures.value
    ∙ (ap (λ ls. line_losses losing (drop c.args.from ls)) (take-length c.args.cables.now.lines)
    ∙ stamps_are losing c.args.cables.now.kept c.args.cables.now.lines c.args.from)

pub returns-clause-loses : goal.returns-clause-loses
returns-clause-loses c = subst (λ ss. Loses ss c.args.cables.now c.lose_between.new.cables) (found c) c.lose_between.ensures.loses

pub returns-clause-gone : goal.returns-clause-gone
returns-clause-gone c =
    subst (λ ss. OnOk c.lose_between.result (IsTrue (are_gone ss c.lose_between.new.cables))) (found c) c.lose_between.ensures.gone

pub returns-clause-due : goal.returns-clause-due
returns-clause-due c =
    subst (λ ss. OnErr c.lose_between.result (are_gone ss c.lose_between.new.cables ≡ false)) (found c) c.lose_between.ensures.due
