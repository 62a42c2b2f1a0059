use Rattle.std.proofs.Common.{◌∙◌}
use Rattle.cable_model.proofs.cables.Cables.pending.Goals as goal

pub returns : goal.returns
returns c =
    rw (← c.self.view_is) (c.is_some.ensures ∙ c.find_pair.ensures.value c.self.inside.seats c.self.invariant.0.book)
