use Rattle.std.proofs.Common.{◌∙◌}
use Rattle.at_base.specs.Packets.{packets}
use Rattle.at_base.proofs.Readers.{value_ok}
use Rattle.rtmp.specs.Requests.{request, request_in}
use Rattle.rtmp.proofs.Asked.{request_lawful}
use Rattle.rtmp.proofs.request.Request.at.Goals as goal

pub returns : goal.returns
unfolding request_in
returns c = c.ok.ensures.value ∙ value_ok packets request request_lawful c.args.bytes.now c.read.result c.read.ensures
