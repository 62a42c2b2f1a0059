-- An extent that is found is that of the one datagram in the bytes; one that is refused is the first fault.
use Rattle.std.proofs.Common.{arith}
use Rattle.ddp.proofs.Extents.{extent_found, extent_datagram, extent_read, extent_refused}
use Rattle.ddp.proofs.view.View.read.Goals as goal

pub invariant_of-result : goal.invariant_of-result
invariant_of-result c =
    extent_datagram c.args.bytes.now c.in-Ok.end (λ i. omega (arith, c.type_inv.bytes i))
    (extent_found c.args.bytes.now c.in-Ok.end c.in-Ok.ensures)

pub returns-in-Ok : goal.returns-in-Ok
returns-in-Ok c =
    extent_read c.args.bytes.now c.in-Ok.end (λ i. omega (arith, c.type_inv.bytes i))
    (extent_found c.args.bytes.now c.in-Ok.end c.in-Ok.ensures)

pub returns-in-Err : goal.returns-in-Err
returns-in-Err c = extent_refused c.args.bytes.now c.in-Err.error (λ i. omega (arith, c.type_inv.bytes i)) c.in-Err.ensures
