use Rattle.std.proofs.Common.{length}
use Rattle.image_cables.proofs.hardware.+recall_ports.Given as goal

abbrev pub decreases-recall_ports : goal.decreases-recall_ports
decreases-recall_ports l = length l.ports.now
