use Rattle.std.proofs.Common.{refl, arith}
use Rattle.at_base.specs.Packets.{packets}
use Rattle.at_base.proofs.Readers.{reads_ok, reads_err}
use Rattle.aarp.specs.declared.packet.Packet.{Packet}
use Rattle.aarp.specs.Packets.{Whole, packet}
use Rattle.aarp.proofs.Shape.{packet_lawful}
use Rattle.aarp.proofs.packet.Packet.read.Goals as goal

pub returns-in-Ok : goal.returns-in-Ok
returns-in-Ok c =
    reads_ok packets packet (λ (w : Whole). w.packet) (λ (p : Packet). p) packet_lawful c.args.bytes.now c.in-Ok.packet _ _ (λ i.
    omega (arith, c.type_inv.bytes i)) c.in-Ok.ensures refl

pub returns-in-Err : goal.returns-in-Err
returns-in-Err c = reads_err packets packet (λ (w : Whole). w.packet) (λ (p : Packet). p) packet_lawful c.args.bytes.now _ (λ i.
    omega (arith, c.type_inv.bytes i)) c.in-Err.ensures
