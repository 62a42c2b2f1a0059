use Rattle.atp.proofs.Keeping.{given_again, still_kept}
use Rattle.atp.proofs.laws.a_kept_answer_lasts.Goals as goal

pub returns : goal.returns
returns c = record { kept = still_kept; again = given_again }
