use Rattle.std.proofs.Common.{◌∙◌, ◌<◌, ◌≤◌, ap, arith, length, refl, sym}
use Rattle.capture_feed.proofs.Skipping.{agrees, differs, keeps_on, no_more, still_pending, within}
use Rattle.capture_feed.specs.Stages.{is_last}
use Rattle.capture_feed.proofs.passing.pass_over.Goals as goal

pub returns-then-len-lt-LAST_LEN-clause-passed : goal.returns-then-len-lt-LAST_LEN-clause-passed
returns-then-len-lt-LAST_LEN-clause-passed c =
    let low : length c.fill-rest.new.kept.items < 4 = omega (arith, c.if-len-lt-LAST_LEN.true) in
    let f = c.fill-rest.ensures in (
      within _ _ _ _ _ _ _ c.requires.keeps c.skip.ensures f.all f.most f.rest low,
      (λ s. keeps_on _ _ _ _ _ _ _ c.requires.keeps c.skip.ensures f.all f.most f.rest low),
      still_pending _ _ _ _ _ _ _ c.requires.keeps c.skip.ensures f.all f.most f.rest low,
    )

pub returns-then-not-is_last-clause-passed : goal.returns-then-not-is_last-clause-passed
returns-then-not-is_last-clause-passed c =
    let enough : 4 ≤ length c.fill-rest.new.kept.items = omega (arith, c.if-len-lt-LAST_LEN.false) in
    let f = c.fill-rest.ensures in
    let other = ap (is_last c.args.before.last) (sym c.as_slice.ensures.value) ∙ (sym c.is_last.ensures ∙ c.if-not-is_last.true) in
    differs _ _ _ _ _ _ _ c.requires.keeps c.skip.ensures f.all f.most f.rest enough other

pub returns-clause-passed : goal.returns-clause-passed
returns-clause-passed c =
    let enough : 4 ≤ length c.fill-rest.new.kept.items = omega (arith, c.if-len-lt-LAST_LEN.false) in
    let f = c.fill-rest.ensures in
    let right = ap (is_last c.args.before.last) (sym c.as_slice.ensures.value) ∙ (sym c.is_last.ensures ∙ c.if-not-is_last.false) in (
      refl,
      c.clear.ensures.items,
      agrees _ _ _ _ _ _ _ c.requires.keeps c.skip.ensures f.all f.most f.rest enough right,
    )

pub returns-clause-fewer : goal.returns-clause-fewer
returns-clause-fewer c =
    let enough : 4 ≤ length c.fill-rest.new.kept.items = omega (arith, c.if-len-lt-LAST_LEN.false) in
    let f = c.fill-rest.ensures in
    no_more _ _ _ _ _ _ _ c.requires.keeps c.skip.ensures f.all f.most f.rest enough
