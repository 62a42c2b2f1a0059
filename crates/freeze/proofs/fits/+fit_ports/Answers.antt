use Rattle.freeze.proofs.Eaches.{each_of}
use Rattle.table_image.proofs.Checked.{FitsPort}
use Rattle.freeze.proofs.fits.+fit_ports.Goals as goal

pub returns-in-len1-up : goal.returns-in-len1-up
returns-in-len1-up t c =
    each_of FitsPort c.args.ports.now c.port-item.result c.in-len1-up.len_at_least c.port-item.is c.fit_port.ensures c.fit_ports.ensures
