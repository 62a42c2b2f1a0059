use Rattle.table_image.proofs.Whole.{all_again, one_reading}
use Rattle.table_image.proofs.image.one_spelling.Goals as goal

pub returns-clause-image : goal.returns-clause-image
returns-clause-image c = λ a i j s t. one_reading a i j (all_again a i s) t
