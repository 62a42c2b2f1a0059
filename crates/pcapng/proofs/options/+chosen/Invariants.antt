use Rattle.pcapng.proofs.options.+chosen.Given as goal

abbrev pub decreases-chosen : goal.decreases-chosen
decreases-chosen l = l.most
