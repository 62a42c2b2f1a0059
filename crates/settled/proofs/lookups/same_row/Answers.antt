use Rattle.std.proofs.Common.{◌∙◌, ap, arith, refl, sym}
use Rattle.std.proofs.lemmas.Bool.{ltb-false}
use Rattle.audit.proofs.Firsts.{item_at}
use Rattle.audit.proofs.WalkLists.{at_one, at_within}
use Rattle.settled.proofs.Alike.{none_like, one_like}
use Rattle.settled.proofs.lookups.same_row.Goals as goal
use Rattle.settled.specs.Offers.{same_range}
use Rattle.table_image.specs.declared.row.Row.{Row}

pub returns-then-same_range : goal.returns-then-same_range
returns-then-same_range c =
    let rows = c.args.rows.now in
    let found = c.in-Some.ensures in
    let at = item_at rows rows c.place_of.result c.in-Some.other.now refl found.lookup.3.0 found.lookup.1 in
    one_like rows c.args.row.now c.place_of.result c.place_of.ensures c.in-Some.other.now at (sym c.same_range.ensures ∙ c.if-same_range.true)

pub returns-else-same_range : goal.returns-else-same_range
returns-else-same_range c =
    let rows = c.args.rows.now in
    let found = c.in-Some.ensures in
    let at = item_at rows rows c.place_of.result c.in-Some.other.now refl found.lookup.3.0 found.lookup.1 in
    none_like rows c.args.row.now c.place_of.result c.place_of.ensures (λ other e.
    ap (λ (o : Row). same_range o c.args.row.now) (at_one rows c.place_of.result other c.in-Some.other.now e at)
    ∙ (sym c.same_range.ensures ∙ c.if-same_range.false))

pub returns-in-None : goal.returns-in-None
returns-in-None c =
    none_like c.args.rows.now c.args.row.now c.place_of.result c.place_of.ensures (λ other at.
    let here = at_within c.args.rows.now c.place_of.result other at in
    let past = ltb-false _ _ (sym c.in-None.ensures.lookup.0) in
    absurd (omega (arith, here, past)))
