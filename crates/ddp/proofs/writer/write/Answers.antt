-- The datagram has a checksum exactly if the header asks for one.
use Rattle.ddp.proofs.Written.{written}
use Rattle.ddp.proofs.writer.write.Goals as goal

pub returns-clause-written : goal.returns-clause-written
returns-clause-written c =
    rw (c.from_vec.ensures, c.with_checksum.ensures.put)
    (written c.args.header.now c.args.payload.now _ (c.in_ok-bytes.ensures {u = tt}).written c.with_checksum.ensures.fits)
