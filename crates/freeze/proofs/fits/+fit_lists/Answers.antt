use Rattle.freeze.proofs.Eaches.{each_of}
use Rattle.freeze.specs.Fits.{FitsList}
use Rattle.freeze.proofs.fits.+fit_lists.Goals as goal

pub returns-in-len1-up : goal.returns-in-len1-up
returns-in-len1-up t c =
    each_of FitsList c.args.lists.now c.list-item.result c.in-len1-up.len_at_least c.list-item.is c.fit_list.ensures c.fit_lists.ensures
