use Rattle.live_cables.proofs.live.LiveCables.first.Goals as goal

pub returns-clause-some : goal.returns-clause-some
returns-clause-some c = rw (← c.self.view_is) c.first.ensures.some
