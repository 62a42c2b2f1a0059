use Rattle.std.proofs.Common.{length}
use Rattle.drawing.proofs.shapes.+put_names.Given as goal

abbrev pub decreases-put_names : goal.decreases-put_names
decreases-put_names l = length l.names.now
