use Rattle.rtmp.proofs.Spelled.{read_back}
use Rattle.rtmp.proofs.laws.data_is_read_back.Goals as goal

pub returns : goal.returns
returns c = read_back
