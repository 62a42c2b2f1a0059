-- The bytes that are put together are those of the packet.
use Rattle.aarp.proofs.Written.{plain_spelled}
use Rattle.aarp.proofs.packet.Packet.write.Goals as goal

pub returns : goal.returns
returns c =
    let source = c.station.ensures in
    let target = c.station-2.ensures in
    rw (
      c.copy_from_slice.ensures.after,
      c.head.ensures,
      c.copy_from_slice-2.ensures.after,
      source.bytes,
      c.copy_from_slice-3.ensures.after,
      target.bytes,
    )
    (plain_spelled c.args.self.now (record {
      source_hw = source.fits.0;
      source_net = source.fits.1;
      source_node = source.fits.2;
      target_hw = target.fits.0;
      target_net = target.fits.1;
      target_node = target.fits.2;
    }))
