use Rattle.std.proofs.Common.{◌≡◌, suc, ◌-◌, arith, sym, ap, ◌∙◌}
use Rattle.at_base.specs.Spans.{before}
use Rattle.at_base.proofs.Spans.{all_past, last_overlaps}
use Rattle.at_base.proofs.spanned.overlaps_any.Goals as goal

pub returns-then-place-gt0 : goal.returns-then-place-gt0
returns-then-place-gt0 g c =
    let span = g.T.Spanned.span in
    let place = c.place_past-place.result in
    let at : place ≡ before span (suc c.args.range.end) c.args.items.now =
    c.place_past-place.ensures.place ∙ ap (λ n. before span (suc n) c.args.items.now) c.end.ensures.value in
    let last : before span (suc c.args.range.end) c.args.items.now ≡ suc (place - 1) = omega (arith, at, c.if-place-gt0.true) in
    let all = last_overlaps span c.args.range 0 (place - 1) c.args.items.now c.index-items-place.result c.requires.map last
    c.index-items-place.is in
    let ends = c.end-then-place-gt0.ensures.value ∙ ap (λ r. r.end) c.range.ensures in
    rw (c.start.ensures.value, ends) (sym all)

pub returns-else-place-gt0 : goal.returns-else-place-gt0
returns-else-place-gt0 g c =
    let span = g.T.Spanned.span in
    let place = c.place_past-place.result in
    let none : place ≡ 0 = omega (arith, c.if-place-gt0.false) in
    let first : before span (suc c.args.range.end) c.args.items.now ≡ 0 =
    sym (c.place_past-place.ensures.place ∙ ap (λ n. before span (suc n) c.args.items.now) c.end.ensures.value) ∙ none in
    rw none (sym (all_past span c.args.range 0 c.args.items.now c.requires.map first))
