use Rattle.std.proofs.Common.{◌-◌}
use Rattle.table_image.proofs.directory.+put_rows.Given as goal

abbrev pub decreases-put_rows : goal.decreases-put_rows
decreases-put_rows l = 256 - l.from
