use Rattle.std.proofs.Common.{◌≤◌, IfOk, Result, Ok, Err}
use Rattle.pcapng.proofs.Fronts.{fits_least}
use Rattle.pcapng.specs.Heads.{FitsItem}
use Rattle.pcapng.specs.declared.fault.Fault.{Fault}
use Rattle.pcapng.specs.declared.head.Head.{Head}
use Rattle.pcapng.proofs.head.Head.read.Goals as goal

at_least : (r : Result Head Fault) → IfOk r (λ head. FitsItem head.item head.len) → IfOk r (λ head. 12 ≤ head.len)
at_least (Ok h) fits = fits_least h.item h.len fits
at_least (Err f) none = none

pub returns-clause-least : goal.returns-clause-least
returns-clause-least c = at_least c.head_by.result c.head_by.ensures.fits
