use Rattle.std.proofs.Common.{Ok, Err, sym}
use Rattle.at_base.specs.Packets.{packets}
use Rattle.aarp.specs.Packets.{packet}
use Rattle.aarp.proofs.Shape.{packet_lawful}
use Rattle.at_base.proofs.Readers.{reads_kept}
use Rattle.station.specs.Resolution.{packet_at}
use Rattle.station.proofs.frames.read_packet.Goals as goal

pub returns-in-Ok : goal.returns-in-Ok
unfolding packet_at
returns-in-Ok c =
    sym (reads_kept packets packet packet_lawful (λ w. w.packet) (λ p. p) c.args.bytes.now (Ok c.in-Ok.packet) c.in-Ok.ensures)

pub returns-in-Err : goal.returns-in-Err
unfolding packet_at
returns-in-Err c =
    sym (reads_kept packets packet packet_lawful (λ w. w.packet) (λ p. p) c.args.bytes.now (Err c.in-Err.field-0) c.in-Err.ensures)
