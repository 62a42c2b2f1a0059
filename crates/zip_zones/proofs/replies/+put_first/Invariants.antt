use Rattle.zip_zones.proofs.replies.+put_first.Given as goal

abbrev pub decreases-put_first : goal.decreases-put_first
decreases-put_first l = l.most
