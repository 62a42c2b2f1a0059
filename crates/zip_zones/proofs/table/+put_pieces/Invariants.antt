use Rattle.std.proofs.Common.{length}
use Rattle.zip_zones.proofs.table.+put_pieces.Given as goal

abbrev pub decreases-put_pieces : goal.decreases-put_pieces
decreases-put_pieces l = length l.numbers.now
