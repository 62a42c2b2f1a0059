use Rattle.cable_model.proofs.cables.Cables.first.Goals as goal

pub returns-clause-some : goal.returns-clause-some
returns-clause-some c = rw (← c.self.view_is) (c.first_pair.ensures.some c.self.inside.seats c.self.invariant.0.book)

pub returns-clause-none : goal.returns-clause-none
returns-clause-none c = rw (← c.self.view_is) (c.first_pair.ensures.none c.self.inside.seats c.self.invariant.0.book)
