use Rattle.std.proofs.Common.{Err, Ok, sym}
use Rattle.at_base.proofs.Readers.{reads_value}
use Rattle.ethertalk.proofs.Shape.{frame_lawful}
use Rattle.ethertalk.specs.Frames.{faults, frame, framed}
use Rattle.routing.specs.Events.{frame_at}
use Rattle.routing.proofs.routing.frame_of.Goals as goal

pub returns-in-Ok : goal.returns-in-Ok
unfolding frame_at
returns-in-Ok c = sym (reads_value faults frame frame_lawful framed c.args.bytes.now (Ok c.in-Ok.frame) c.in-Ok.ensures)

pub returns-in-Err : goal.returns-in-Err
unfolding frame_at
returns-in-Err c = sym (reads_value faults frame frame_lawful framed c.args.bytes.now (Err c.in-Err.field-0) c.in-Err.ensures)
