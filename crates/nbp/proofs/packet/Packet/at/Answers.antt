use Rattle.std.proofs.Common.{◌∙◌}
use Rattle.at_base.specs.Packets.{packets}
use Rattle.at_base.proofs.Readers.{value_ok}
use Rattle.nbp.specs.Packets.{packet}
use Rattle.nbp.specs.Packets.{names_in}
use Rattle.nbp.proofs.Shape.{packet_lawful}
use Rattle.nbp.proofs.packet.Packet.at.Goals as goal

pub returns : goal.returns
unfolding names_in
returns c = c.ok.ensures.value ∙ value_ok packets packet packet_lawful c.args.bytes.now c.read.result c.read.ensures
