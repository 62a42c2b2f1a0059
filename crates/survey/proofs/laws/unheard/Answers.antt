use Rattle.std.proofs.Common.{[], ap}
use Rattle.survey.specs.Asking.{heard_if}
use Rattle.survey.proofs.laws.unheard.Goals as goal

pub returns : goal.returns
returns c = λ a k f none. ap (heard_if a) none
