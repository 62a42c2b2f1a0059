use Rattle.cable_model.proofs.seats.+most_on.Given as goal

abbrev pub decreases-most_on : goal.decreases-most_on
decreases-most_on l = l.cables
