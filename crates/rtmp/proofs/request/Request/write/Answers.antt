use Rattle.rtmp.proofs.Asked.{spelled}
use Rattle.rtmp.proofs.request.Request.write.Goals as goal

pub returns : goal.returns
returns c = rw c.function.ensures (spelled c.args.self)
