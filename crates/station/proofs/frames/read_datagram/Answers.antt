use Rattle.std.proofs.Common.{Ok, Err, sym}
use Rattle.at_base.specs.Packets.{packets}
use Rattle.ddp.specs.Datagram.{datagram}
use Rattle.ddp.proofs.Shape.{datagram_lawful}
use Rattle.at_base.proofs.Readers.{reads_value}
use Rattle.station.specs.Values.{datagram_at}
use Rattle.station.proofs.frames.read_datagram.Goals as goal

pub returns-in-Ok : goal.returns-in-Ok
unfolding datagram_at
returns-in-Ok c = sym (reads_value packets datagram datagram_lawful (λ d. d) c.args.bytes.now (Ok c.in-Ok.view) c.in-Ok.ensures)

pub returns-in-Err : goal.returns-in-Err
unfolding datagram_at
returns-in-Err c = sym (reads_value packets datagram datagram_lawful (λ d. d) c.args.bytes.now (Err c.in-Err.field-0) c.in-Err.ensures)
