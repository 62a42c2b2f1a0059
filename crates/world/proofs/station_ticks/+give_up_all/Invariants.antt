use Rattle.std.proofs.Common.{length}
use Rattle.world.proofs.station_ticks.+give_up_all.Given as goal

abbrev pub decreases-give_up_all : goal.decreases-give_up_all
decreases-give_up_all g l = length l.addrs.now
