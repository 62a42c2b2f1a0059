use Rattle.std.proofs.Common.{refl}
use Rattle.pcapng.proofs.blocks.packet_front.Goals as goal

pub returns : goal.returns
returns c =
    rw (
      c.to_be_bytes.ensures,
      c.to_be_bytes-2.ensures,
      c.to_be_bytes-3.ensures,
      c.to_be_bytes-4.ensures,
      c.to_be_bytes-5.ensures,
      c.to_be_bytes-6.ensures,
      c.from.ensures,
    )
    refl
