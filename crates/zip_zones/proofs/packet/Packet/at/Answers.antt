use Rattle.std.proofs.Common.{◌∙◌}
use Rattle.at_base.specs.Packets.{packets}
use Rattle.at_base.proofs.Readers.{value_ok}
use Rattle.zip_zones.specs.Formats.{packet}
use Rattle.zip_zones.specs.Formats.{zones_in}
use Rattle.zip_zones.proofs.Shape.{packet_lawful}
use Rattle.zip_zones.proofs.packet.Packet.at.Goals as goal

pub returns : goal.returns
unfolding zones_in
returns c = c.ok.ensures.value ∙ value_ok packets packet packet_lawful c.args.bytes.now c.read.result c.read.ensures
