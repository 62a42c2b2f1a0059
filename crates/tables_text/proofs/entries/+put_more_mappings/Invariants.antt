use Rattle.std.proofs.Common.{length}
use Rattle.tables_text.proofs.entries.+put_more_mappings.Given as goal

abbrev pub decreases-put_more_mappings : goal.decreases-put_more_mappings
decreases-put_more_mappings l = length l.mappings.now
