use Rattle.std.proofs.Common.{◌≡◌, ◌==◌, false, ap, sym, ◌∙◌, refl, eq-eqb, ne_eqb}
use Rattle.at_base.proofs.Spans.{item_read}
use Rattle.zip_zones.specs.Zones.{Known}
use Rattle.zip_zones.proofs.change.place_to_go_on.Goals as goal

pub returns-in-Ok-clause-some : goal.returns-in-Ok-clause-some
returns-in-Ok-clause-some c =
    let at = rw (c.in-Ok.is) at c.requires.found in
    let same = item_read (λ k. k.range) c.args.range c.args.lists.now c.in-Ok.place at c.index-lists-place.result c.index-lists-place.is in
    let total : at.item.total ≡ c.args.total = ap (λ (k : Known). k.total) same ∙ sym c.total.ensures ∙ c.if-total.true in
    (at, rw (eq-eqb at.item.total c.args.total total) refl)

pub returns-in_default-clause-none : goal.returns-in_default-clause-none
returns-in_default-clause-none c =
    let at = rw (c.in-Ok.is) at c.requires.found in
    let same = item_read (λ k. k.range) c.args.range c.args.lists.now c.in-Ok.place at c.index-lists-place.result c.index-lists-place.is in
    let total : at.item.total ≡ c.total.result = ap (λ (k : Known). k.total) same ∙ sym c.total.ensures in
    let other : (at.item.total == c.args.total) ≡ false = rw total (ne_eqb c.total.result c.args.total c.if-total.false) in
    rw (at.found, other) refl
