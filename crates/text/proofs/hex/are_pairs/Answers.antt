use Rattle.std.proofs.Common.{ap, ◌∙◌}
use Rattle.std.specs.Prelude.{is_some}
use Rattle.text.specs.Words.{pairs}
use Rattle.text.proofs.Pairs.{one_pair_more}
use Rattle.text.proofs.hex.are_pairs.Goals as goal

pub loop-rest-preserved : goal.loop-rest-preserved
loop-rest-preserved c =
    c.loop-rest.invariant ∙ ap is_some c.in-Some.ensures.some ∙ one_pair_more c.in-Some._byte (pairs c.in-Some.more.now)
