use Rattle.freeze.proofs.Eaches.{each_from}
use Rattle.table_image.proofs.Checked.{FitsRow}
use Rattle.freeze.proofs.fits.+fit_rows.Goals as goal

pub returns-in-len1-up : goal.returns-in-len1-up
returns-in-len1-up t c =
    each_from FitsRow c.args.rows.now _ c.in-len1-up.len_at_least c.fit_row.ensures c.fit_rows.ensures
