use Rattle.live_cables.proofs.Losses.{gone_lost, loses_one}
use Rattle.live_cables.proofs.losing.lose.Goals as goal

pub returns-in-Ok-clause-loses : goal.returns-in-Ok-clause-loses
returns-in-Ok-clause-loses c = loses_one _ _ _ c.in-Ok.ensures.ok

pub returns-in-Ok-clause-gone : goal.returns-in-Ok-clause-gone
returns-in-Ok-clause-gone c = gone_lost _ _ _ c.in-Ok.ensures.ok
