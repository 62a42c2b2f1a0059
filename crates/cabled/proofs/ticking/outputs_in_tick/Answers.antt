use Rattle.cabled.proofs.Few.{outputs_few}
use Rattle.cabled.proofs.ticking.outputs_in_tick.Goals as goal

pub returns-clause-few : goal.returns-clause-few
returns-clause-few g c = outputs_few _ _ _ _ (c.in_ok-outputs.ensures {u = tt}).ok (c.in_ok-tick.ensures {u = tt}).ok
