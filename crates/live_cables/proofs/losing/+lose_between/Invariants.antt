use Rattle.std.proofs.Common.{◌-◌}
use Rattle.live_cables.proofs.losing.+lose_between.Given as goal

abbrev pub decreases-lose_between : goal.decreases-lose_between
decreases-lose_between l = l.end - l.from
