use Rattle.zip_zones.proofs.replies.+fitting.Given as goal

abbrev pub decreases-fitting : goal.decreases-fitting
decreases-fitting l = l.room
