use Rattle.std.proofs.Common.{arith}
use Rattle.atp.proofs.Shape.{reads_of}
use Rattle.atp.proofs.packet.Packet.read.Goals as goal

pub returns : goal.returns
returns c = reads_of c.args.bytes.now (λ i. omega (arith, c.type_inv.bytes i)) c.parts_of.result c.parts_of.ensures
