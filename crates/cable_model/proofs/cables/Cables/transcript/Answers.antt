use Rattle.cable_model.proofs.cables.Cables.transcript.Goals as goal

pub returns-clause-once : goal.returns-clause-once
returns-clause-once c = rw (← c.self.view_is) c.self.invariant.0.book.once
