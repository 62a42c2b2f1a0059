use Rattle.std.proofs.Common.{◌∙◌, sym}
use Rattle.audit.proofs.Firsts.{item_at}
use Rattle.audit.proofs.RowOrder.{only_row}
use Rattle.audit.proofs.lookups.same_row.Goals as goal

pub returns-then-same_range : goal.returns-then-same_range
returns-then-same_range c =
    let found = c.in-Some.ensures in
    let at = item_at c.args.router.now.rows _ c.args.hint _ c.as_slice-rows.ensures found.lookup.3.0 found.lookup.1 in
    only_row c.args.router.now.rows c.args.row.now c.args.hint c.in-Some.other.now c.requires at (sym c.same_range.ensures
    ∙ c.if-same_range.true)
