use Rattle.nbp.proofs.packet.+after_tuples.Given as goal

abbrev pub decreases-after_tuples : goal.decreases-after_tuples
decreases-after_tuples l = l.count
