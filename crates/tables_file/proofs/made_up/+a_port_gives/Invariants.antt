use Rattle.std.proofs.Common.{length}
use Rattle.tables_file.proofs.made_up.+a_port_gives.Given as goal

abbrev pub decreases-a_port_gives : goal.decreases-a_port_gives
decreases-a_port_gives l = length l.routers.now
