use Rattle.at_base.proofs.in_place.+after_items.Given as goal

abbrev pub decreases-after_items : goal.decreases-after_items
decreases-after_items g l = l.count
