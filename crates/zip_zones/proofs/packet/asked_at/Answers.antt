use Rattle.std.proofs.Common.{arith}
use Rattle.at_base.proofs.Packets.{text_short}
use Rattle.zip_zones.proofs.packet.asked_at.Goals as goal

pub unreachable-requires : goal.unreachable-requires
unreachable-requires c =
    (c.in-Err.ensures {u = tt}).made (text_short 0 c.args.bytes.now c.in_ok-asked.asked.now c.in_ok-asked.rest.now (λ i. omega
    (arith, c.type_inv.bytes i)) (c.in_ok-asked.ensures {u = tt})).1
