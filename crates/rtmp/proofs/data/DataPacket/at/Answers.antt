use Rattle.std.proofs.Common.{◌∙◌}
use Rattle.at_base.specs.Packets.{packets}
use Rattle.at_base.proofs.Readers.{value_ok}
use Rattle.rtmp.specs.Data.{routing_data}
use Rattle.rtmp.specs.Data.{routing_in}
use Rattle.rtmp.proofs.Shape.{data_lawful}
use Rattle.rtmp.proofs.data.DataPacket.at.Goals as goal

pub returns : goal.returns
unfolding routing_in
returns c = c.ok.ensures.value ∙ value_ok packets routing_data data_lawful c.args.bytes.now c.read.result c.read.ensures
