use Rattle.zip_zones.proofs.ReadBack.{answer_read}
use Rattle.zip_zones.proofs.laws.answers_are_read.Goals as goal

pub returns : goal.returns
returns c = answer_read
