use Rattle.std.proofs.Common.{length}
use Rattle.table_image.specs.Counts.{count_len, size_of}
use Rattle.table_image.proofs.CheckLoop.{near_limit}
use Rattle.table_image.proofs.Checked.{counted_checks}
use Rattle.table_image.proofs.checking.check_counted.Goals as goal

pub returns-clause-checked : goal.returns-clause-checked
returns-clause-checked g c =
    counted_checks (size_of c.args.size) c.args.limit (g.T.Item.spelling c.args.context) g.T.Item.next c.args.items.now c.args.at
    c.check_list.result c.requires.few c.requires.fits
    (rw (← c.as_slice.ensures, ← c.len.ensures) c.check_list.ensures.checked)

pub returns-clause-near : goal.returns-clause-near
returns-clause-near g c =
    near_limit (length c.args.items.now) c.args.limit g.T.CheckItem.max_size c.args.at (count_len (size_of c.args.size))
    c.check_list.result c.requires.few
    (rw (← c.as_slice.ensures, ← c.len.ensures) c.check_list.ensures.near)
