use Rattle.live_cables.proofs.live.LiveCables.transcript.Goals as goal

pub returns-clause-once : goal.returns-clause-once
returns-clause-once c = rw (← c.self.view_is) c.transcript.ensures.once
