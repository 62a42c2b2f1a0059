use Rattle.cabled.proofs.Few.{outputs_few}
use Rattle.cabled.proofs.hearing.fill.Goals as goal

pub returns-clause-few : goal.returns-clause-few
returns-clause-few g c = outputs_few _ _ _ _ c.requires.empty (c.in_ok-hear_datagram.ensures {u = tt}).ok
