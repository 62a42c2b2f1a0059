use Rattle.std.proofs.Common.{arith}
use Rattle.text.proofs.InDigits.{hex_step, hex_done}
use Rattle.text.proofs.digits.write_hex.Goals as goal

pub loop-i-preserved : goal.loop-i-preserved
loop-i-preserved c =
    hex_step c.args.bytes.now c.loop-i.out c.loop-i.i _ _ (omega arith)
    (omega arith) c.hex_digit.ensures c.hex_digit-in-loop-i.ensures c.loop-i.invariant

pub returns : goal.returns
returns c = hex_done _ _ c.loop-i.i (omega arith) (omega arith) c.loop-i.invariant
