use Rattle.router.proofs.Stays.{tables_stay}
use Rattle.router.proofs.laws.tables_stay.Goals as goal

pub returns : goal.returns
returns c = tables_stay
