use Rattle.std.proofs.Common.{length}
use Rattle.drawing.proofs.shapes.+put_zones.Given as goal

abbrev pub decreases-put_zones : goal.decreases-put_zones
decreases-put_zones l = length l.zones.now
