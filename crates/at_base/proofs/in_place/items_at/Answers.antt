use Rattle.at_base.proofs.in_place.items_at.Goals as goal

pub invariant_of-items : goal.invariant_of-items
invariant_of-items g c = (c.in_ok-rest.rest.now, c.in_ok-rest.ensures)
