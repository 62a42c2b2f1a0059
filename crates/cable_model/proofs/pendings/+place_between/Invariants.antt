use Rattle.std.proofs.Common.{◌-◌}
use Rattle.cable_model.proofs.pendings.+place_between.Given as goal

abbrev pub decreases-place_between : goal.decreases-place_between
decreases-place_between l = l.high - l.low
