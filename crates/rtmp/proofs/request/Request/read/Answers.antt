use Rattle.std.proofs.Common.{refl, arith}
use Rattle.at_base.specs.Packets.{packets}
use Rattle.at_base.proofs.Readers.{reads_ok, reads_err}
use Rattle.rtmp.specs.declared.request.Request.{Request}
use Rattle.rtmp.specs.Requests.{request}
use Rattle.rtmp.proofs.Asked.{request_lawful}
use Rattle.rtmp.proofs.request.Request.read.Goals as goal

pub returns-in-Ok : goal.returns-in-Ok
returns-in-Ok c =
    reads_ok packets request (λ (r : Request). r) (λ (r : Request). r) request_lawful c.args.bytes.now c.in-Ok.request _ _ (λ i.
    omega (arith, c.type_inv.bytes i)) c.in-Ok.ensures refl

pub returns-in-Err : goal.returns-in-Err
returns-in-Err c = reads_err packets request (λ (r : Request). r) (λ (r : Request). r) request_lawful c.args.bytes.now _ (λ i.
    omega (arith, c.type_inv.bytes i)) c.in-Err.ensures
