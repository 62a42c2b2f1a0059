use Rattle.std.proofs.Common.{◌∙◌, ap, option_map}
use Rattle.at_base.specs.Packets.{packets}
use Rattle.at_base.proofs.Readers.{seen_ok}
use Rattle.atp.specs.Packets.{packet}
use Rattle.atp.specs.InPlace.{packet_value, transaction_in}
use Rattle.atp.proofs.Shape.{packet_lawful}
use Rattle.atp.proofs.packet.Packet.at.Goals as goal

pub returns : goal.returns
unfolding transaction_in
returns c = ap (option_map packet_value) c.ok.ensures.value ∙ seen_ok packets packet packet_lawful packet_value c.args.bytes.now c.read.result c.read.ensures
