use Rattle.std.proofs.Common.{◌∙◌, ◌<◌, ◌≤◌, List, ap, arith, length, subst, sym, take, ℕ}
use Rattle.capture_feed.proofs.Growing.{filled}
use Rattle.pcapng.specs.Heads.{head_of}
use Rattle.pcapng.specs.declared.form.Began.{Began}
use Rattle.capture_feed.proofs.taking.fill_up.Goals as goal

pub returns-in-Ok-clause-filled : goal.returns-in-Ok-clause-filled
returns-in-Ok-clause-filled c =
    filled c.args.section.now c.args.kept.now.items c.args.piece.now c.fill-rest.new.kept.items c.fill-rest.result.now c.fill.new.kept.items
    c.fill.result.now c.in-Ok.head c.requires.waits c.fill-rest.ensures.all c.fill-rest.ensures.most c.fill-rest.ensures.same
    (omega (arith, c.if-len-lt-HEAD_LEN.false)) (ap (λ (l : List ℕ). head_of c.args.section.now.began (take 12 l)) (sym c.as_slice.ensures.value)
    ∙ (ap (λ (o : Began). head_of o (take 12 c.as_slice.result.now)) (sym c.began.ensures) ∙ sym c.in-Ok.ensures.read)) c.in-Ok.ensures.least c.fill.ensures.all
    (λ few. subst (λ n. length c.fill.new.kept.items ≤ n) c.front.ensures.value (c.fill.ensures.most (subst (λ n.
    length c.fill-rest.new.kept.items ≤ n) (sym c.front.ensures.value) few)))
    (λ low. c.fill.ensures.rest (subst (λ n. length c.fill.new.kept.items < n) (sym c.front.ensures.value) low))
