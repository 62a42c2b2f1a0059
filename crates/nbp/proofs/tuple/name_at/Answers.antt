use Rattle.std.proofs.Common.{arith}
use Rattle.at_base.proofs.Packets.{text_short}
use Rattle.nbp.proofs.tuple.name_at.Goals as goal

pub returns-clause-some : goal.returns-clause-some
returns-clause-some c =
    (text_short c.args.least c.args.bytes.now c.in_ok-text.text.now c.in_ok-text.rest.now
    (λ i. omega (arith, c.type_inv.bytes i)) (c.in_ok-text.ensures {u = tt})).0

pub returns-clause-few : goal.returns-clause-few
returns-clause-few c =
    (text_short c.args.least c.args.bytes.now c.in_ok-text.text.now c.in_ok-text.rest.now
    (λ i. omega (arith, c.type_inv.bytes i)) (c.in_ok-text.ensures {u = tt})).1
