use Rattle.std.proofs.Common.{refl, arith}
use Rattle.at_base.proofs.Readers.{reads_ok, reads_err}
use Rattle.ethertalk.specs.Frames.{Framed, faults, frame, framed}
use Rattle.ethertalk.proofs.Shape.{frame_lawful}
use Rattle.ethertalk.proofs.frame.Frame.read.Goals as goal

pub returns-in-Ok : goal.returns-in-Ok
returns-in-Ok c =
    reads_ok faults frame (λ (f : Framed). f) framed frame_lawful c.args.bytes.now c.in-Ok.frame _ _
    (λ i. omega (arith, c.type_inv.bytes i)) c.in-Ok.ensures refl

pub returns-in-Err : goal.returns-in-Err
returns-in-Err c =
    reads_err faults frame (λ (f : Framed). f) framed frame_lawful c.args.bytes.now _
    (λ i. omega (arith, c.type_inv.bytes i)) c.in-Err.ensures
