use Rattle.at_base.specs.Text.{IsName}
use Rattle.freeze.proofs.Eaches.{each_of}
use Rattle.freeze.proofs.fits.+fit_zones.Goals as goal

pub returns-in-len1-up : goal.returns-in-len1-up
returns-in-len1-up t c =
    each_of IsName c.args.zones.now c.zone-item.result c.in-len1-up.len_at_least c.zone-item.is c.as_slice-bytes.ensures.named
    c.fit_zones.ensures
