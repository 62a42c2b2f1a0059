use Rattle.cable_model.proofs.Counting.{contained_at}
use Rattle.cable_model.proofs.Pairs.{pending_less}
use Rattle.cable_model.specs.Pending.{pending}
use Rattle.cable_model.proofs.laws.taking_ends_one_pair.Goals as goal

pub returns : goal.returns
returns c = λ seats test t p one_seat once there.
    let at = contained_at (pending seats t) p there in
    pending_less seats one_seat test t p at.0 once at.1
