use Rattle.playing.proofs.printing.+put_nodes.Given as goal

abbrev pub decreases-put_nodes : goal.decreases-put_nodes
decreases-put_nodes l = l.left
