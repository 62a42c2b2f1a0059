-- The words and bytes that are written are those of the header.
use Rattle.std.proofs.Common.{arith}
use Rattle.ddp.proofs.Written.{plain_spelled}
use Rattle.ddp.proofs.writer.header_bytes.Goals as goal

pub returns : goal.returns
returns c =
    rw (c.write_u16-3.ensures, c.write_u16-2.ensures, c.write_u16.ensures)
    (plain_spelled c.args.header.now c.args.payload.now (record {
      target_net = omega arith;
      source_net = omega arith;
      target_node = omega arith;
      source_node = omega arith;
      target_socket = omega arith;
      source_socket = omega arith;
      kind = omega arith;
    }) c.requires)
