use Rattle.rtmp.proofs.Asked.{request_read_back}
use Rattle.rtmp.proofs.laws.request_is_read_back.Goals as goal

pub returns : goal.returns
returns c = request_read_back
