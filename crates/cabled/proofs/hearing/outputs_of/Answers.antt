use Rattle.cabled.proofs.Few.{outputs_few}
use Rattle.cabled.proofs.hearing.outputs_of.Goals as goal

pub returns-clause-few : goal.returns-clause-few
returns-clause-few g c = outputs_few _ _ _ _ (c.in_ok-outputs.ensures {u = tt}).ok (c.in_ok-hear.ensures {u = tt}).ok
