-- What is made of a tables file.
use Rattle.std.specs.Prelude.{List, ℕ}
use Rattle.audit.specs.Verdicts.{Judges}
use Rattle.commands.specs.declared.auditing.Judged.{Judged}
use Rattle.tables_file.specs.Files.{AreTables}

-- The text says the tables of this image, and this is the verdict on it.
pub record IsMade (text : List ℕ) (made : Judged) : Type 0 where
  pub tables : AreTables text made.image
  pub judged : Judges made.image made.verdict
