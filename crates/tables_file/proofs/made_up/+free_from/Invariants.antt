use Rattle.tables_file.proofs.made_up.+free_from.Given as goal

abbrev pub decreases-free_from : goal.decreases-free_from
decreases-free_from l = l.more
