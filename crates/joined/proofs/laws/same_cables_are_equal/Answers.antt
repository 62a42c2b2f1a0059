use Rattle.joined.proofs.Same.{same_is_equal}
use Rattle.joined.proofs.laws.same_cables_are_equal.Goals as goal

pub returns : goal.returns
returns c = same_is_equal
