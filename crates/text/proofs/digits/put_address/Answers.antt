use Rattle.std.proofs.Common.{arith, ◌∙◌}
use Rattle.text.proofs.InDigits.{cut_back}
use Rattle.text.proofs.digits.put_address.Goals as goal

pub returns-in-Err-clause-kept : goal.returns-in-Err-clause-kept
returns-in-Err-clause-kept c =
    cut_back c.args.text.now.items c.put_node.new.text.items c.truncate.new.self.items _ c.len-start.result
    (omega (arith, c.args.text.now.ok.0)) (c.in-Err.ensures.kept ∙ c.in_ok-put_decimal.ensures.ok) c.truncate.ensures.items
