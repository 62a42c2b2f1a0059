use Rattle.std.proofs.Common.{length}
use Rattle.trace_lines.proofs.stations.+on_cable.Given as goal

abbrev pub decreases-on_cable : goal.decreases-on_cable
decreases-on_cable l = length l.ports.now
