use Rattle.routing.proofs.counting.Counting.+pass_all.Given as goal

abbrev pub decreases-pass_all : goal.decreases-pass_all
decreases-pass_all g l = l.count
