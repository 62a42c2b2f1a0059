use Rattle.std.proofs.Common.{sym, subst}
use Rattle.settled.proofs.Exchange.{rows_aged}
use Rattle.settled.specs.Exchange.{AreMovedRows}
use Rattle.settled.proofs.neighbours.age_good.Goals as goal

pub returns-clause-stays : goal.returns-clause-stays
returns-clause-stays g c = λ i r router at here good.
    subst (AreMovedRows i r router) (sym c.age.ensures) (rows_aged i r router _ here good)
