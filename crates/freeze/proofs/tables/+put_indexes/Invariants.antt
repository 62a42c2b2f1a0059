use Rattle.std.proofs.Common.{length}
use Rattle.freeze.proofs.tables.+put_indexes.Given as goal

abbrev pub decreases-put_indexes : goal.decreases-put_indexes
decreases-put_indexes l = length l.ports.now
