use Rattle.std.proofs.Common.{refl, arith}
use Rattle.at_base.specs.Packets.{packets}
use Rattle.at_base.proofs.Readers.{reads_ok, reads_err}
use Rattle.nbp.specs.Packets.{NbpPacket, packet}
use Rattle.nbp.proofs.Shape.{packet_lawful}
use Rattle.nbp.proofs.packet.Packet.read.Goals as goal

pub returns-in-Ok : goal.returns-in-Ok
returns-in-Ok c =
    reads_ok {X = NbpPacket} packets packet (λ d. d) (λ d. d) packet_lawful c.args.bytes.now _ _ _
    (λ i. omega (arith, c.type_inv.bytes i)) c.in-Ok.ensures refl

pub returns-in-Err : goal.returns-in-Err
returns-in-Err c =
    reads_err {X = NbpPacket} packets packet (λ d. d) (λ d. d) packet_lawful c.args.bytes.now _
    (λ i. omega (arith, c.type_inv.bytes i)) c.in-Err.ensures
