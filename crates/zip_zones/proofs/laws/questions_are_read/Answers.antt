use Rattle.zip_zones.proofs.ReadBack.{question_read}
use Rattle.zip_zones.proofs.laws.questions_are_read.Goals as goal

pub returns : goal.returns
returns c = question_read
