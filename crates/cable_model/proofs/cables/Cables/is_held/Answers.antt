use Rattle.cable_model.proofs.cables.Cables.is_held.Goals as goal

pub returns : goal.returns
returns c = rw (← c.self.view_is) (c.is_held.ensures.value c.self.inside.seats c.self.invariant.0.book)
