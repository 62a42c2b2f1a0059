use Rattle.std.proofs.Common.{sym}
use Rattle.audit.proofs.ListPlaces.{bad_nowhere}
use Rattle.audit.proofs.zone_lists.is_bad.Goals as goal

pub returns-in-None : goal.returns-in-None
returns-in-None c = bad_nowhere c.args.image.now c.args.list.now (sym c.in-None.ensures)
