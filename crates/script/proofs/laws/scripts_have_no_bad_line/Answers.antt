use Rattle.script.proofs.Telling.{no_bad_line}
use Rattle.script.proofs.laws.scripts_have_no_bad_line.Goals as goal

pub returns : goal.returns
returns c = record { sound = no_bad_line }
