use Rattle.std.proofs.Common.{length}
use Rattle.image_stations.proofs.whereabouts.+among_ports.Given as goal

abbrev pub decreases-among_ports : goal.decreases-among_ports
decreases-among_ports l = length l.ports.now
