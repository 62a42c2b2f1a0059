use Rattle.tables_text.specs.Tables.{bytes_text}
use Rattle.tables_text.proofs.values.put_text.Goals as goal

pub returns : goal.returns
unfolding bytes_text
returns c = c.put_bytes.ensures
