use Rattle.freeze.proofs.Eaches.{each_of}
use Rattle.table_image.proofs.CheckedParts.{FitsName}
use Rattle.freeze.proofs.fits.+fit_names.Goals as goal

pub returns-in-len1-up : goal.returns-in-len1-up
returns-in-len1-up t c =
    each_of FitsName c.args.names.now c.name-item.result c.in-len1-up.len_at_least c.name-item.is c.fit_name.ensures c.fit_names.ensures
