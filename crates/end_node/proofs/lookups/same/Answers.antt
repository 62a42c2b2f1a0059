use Rattle.at_base.proofs.Texts.{test_is}
use Rattle.end_node.proofs.lookups.same.Goals as goal

pub returns : goal.returns
returns c = test_is c.eq_ignore_ascii_case.result c.args.a.now c.args.b.now c.eq_ignore_ascii_case.ensures.test
