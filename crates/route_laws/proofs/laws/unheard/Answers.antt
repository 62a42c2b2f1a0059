use Rattle.std.proofs.Common.{refl}
use Rattle.route_laws.proofs.laws.unheard.Goals as goal

pub returns : goal.returns
returns c = λ r k f none. rw none refl
