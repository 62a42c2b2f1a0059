use Rattle.std.proofs.Common.{sym, subst}
use Rattle.cable_model.proofs.Takes.{no_spare}
use Rattle.cable_model.specs.Books.{HasOneSeat}
use Rattle.cable_model.proofs.cables.Cables.new.Goals as goal

pub invariant_of-result : goal.invariant_of-result
invariant_of-result c =
    let kept = c.empty.ensures.kept _ _ (subst HasOneSeat (sym c.in_ok-seats.ensures.ok) c.requires.one_seat) in
    (kept, c.requires.rooms, no_spare _ _ _)
