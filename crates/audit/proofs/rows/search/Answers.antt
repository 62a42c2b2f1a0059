use Rattle.std.proofs.Common.{◌∙◌, ap, sym, subst, suc, arith, Some}
use Rattle.at_base.specs.declared.error.Place.{Place}
use Rattle.at_base.specs.declared.error.Place.TheVariants as place
use Rattle.audit.specs.Firsts.{FirstPlace}
use Rattle.audit.specs.Rules.{breaks_rows}
use Rattle.audit.proofs.Firsts.{item_at, end_of}
use Rattle.audit.proofs.RowPlaces.{first_missing_place, no_bad_row}
use Rattle.audit.proofs.rows.search.Goals as goal

pub from_one-requires-in-Some : goal.from_one-requires-in-Some
from_one-requires-in-Some c =
    let at = item_at c.args.image.now.routers _ c.loop-r.r _ c.routers-router-items.ensures.value c.loop-r-test.true c.router-item.is in
    let few = (c.routers-router-items.ensures.bounded.each c.loop-r.r _ at).rows in
    let low = c.in-Some.ensures.low in
    omega (arith, few, low)

pub first_missing-requires : goal.first_missing-requires
first_missing-requires c =
    item_at c.args.image.now.routers _ c.loop-r.r _ c.routers-router-items.ensures.value c.loop-r-test.true c.router-item.is

pub returns-in-Some-first_missing : goal.returns-in-Some-first_missing
returns-in-Some-first_missing c =
    let first = first_missing_place c.args.rule c.args.image.now c.loop-r.r c.in-Some-first_missing.k c.loop-r.invariant
    c.in_default.ensures.first c.in-Some-first_missing.ensures.first in
    let P : Place → Type 0 = λ p. FirstPlace (breaks_rows c.args.rule c.args.image.now) (Some p) in
    let router = c.from_one-in-Some-first_missing.ensures in
    let cable = c.from_one-in-Some-first_missing-2.ensures in
    subst P (sym (ap (λ r. place.Missing r c.from_one-in-Some-first_missing-2.result) router ∙ ap (place.Missing (suc c.loop-r.r)) cable))
    first

pub returns : goal.returns
returns c =
    no_bad_row c.args.rule c.args.image.now c.loop-r.r
    (end_of c.args.image.now.routers _ c.loop-r.r c.routers-router-items.ensures.value c.loop-r-test.false) c.loop-r.invariant
