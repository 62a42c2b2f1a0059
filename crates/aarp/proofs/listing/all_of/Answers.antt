use Rattle.aarp.proofs.listing.all_of.Goals as goal

pub sort-requires-clause-distinct : goal.sort-requires-clause-distinct
sort-requires-clause-distinct c = rw c.in_ok-all.ensures.ok c.len-len.ensures.valid.0
