use Rattle.live_cables.proofs.Calm.{puts_of, puts_same}
use Rattle.std.proofs.Common.{refl}
use Rattle.live_cables.proofs.putting.put.Goals as goal

pub returns-in-Ok-clause-puts : goal.returns-in-Ok-clause-puts
returns-in-Ok-clause-puts c = puts_of _ _ _ c.in-Ok.ensures.ok.1 refl

pub returns-in-Err-clause-puts : goal.returns-in-Err-clause-puts
returns-in-Err-clause-puts c = puts_same _ _ c.in-Err.ensures.kept
