use Rattle.std.proofs.Common.{refl}
use Rattle.resolved_runs.proofs.laws.a_full_ring_gives_up_its_oldest.Goals as goal
use Rattle.resolved_runs.proofs.FullRing.{released_55, ring_36}

pub returns : goal.returns
returns c = record { legal = ring_36; entries = refl; counts = (refl, refl, refl); held = refl; pending = refl; released = released_55; none_held = refl }
