use Rattle.pcapng.proofs.options.+any_lost.Given as goal

abbrev pub decreases-any_lost : goal.decreases-any_lost
decreases-any_lost l = l.most
