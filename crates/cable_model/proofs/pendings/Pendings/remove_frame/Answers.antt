use Rattle.std.proofs.Common.{subst, sym}
use Rattle.cable_model.proofs.Stored.{filter_rises}
use Rattle.cable_model.specs.Order.{Rises}
use Rattle.cable_model.specs.Waits.{due_key}
use Rattle.cable_model.proofs.pendings.Pendings.remove_frame.Goals as goal

pub invariant_of-self : goal.invariant_of-self
invariant_of-self c =
    subst (Rises due_key) (sym c.remove_stamp.ensures.items) (filter_rises due_key _ c.self.inside.items.items c.self.invariant)
