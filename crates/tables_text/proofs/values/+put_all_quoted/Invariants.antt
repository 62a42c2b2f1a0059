use Rattle.std.proofs.Common.{length}
use Rattle.tables_text.proofs.values.+put_all_quoted.Given as goal

abbrev pub decreases-put_all_quoted : goal.decreases-put_all_quoted
decreases-put_all_quoted l = length l.bytes.now
