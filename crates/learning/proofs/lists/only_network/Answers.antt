use Rattle.std.proofs.Common.{sym, ◌∙◌}
use Rattle.learning.proofs.Named.{one_named}
use Rattle.learning.proofs.lists.only_network.Goals as goal

pub returns-in-len1-up : goal.returns-in-len1-up
returns-in-len1-up c =
    one_named c.first-item.result.net c.args.entries.now c.in-len1-up.len_at_least (sym c.are_of.ensures ∙ c.if-are_of.true)
