use Rattle.std.proofs.Common.{length}
use Rattle.tables_text.proofs.values.+put_more_names.Given as goal

abbrev pub decreases-put_more_names : goal.decreases-put_more_names
decreases-put_more_names l = length l.names.now
