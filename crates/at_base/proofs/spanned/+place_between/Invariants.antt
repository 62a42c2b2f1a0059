use Rattle.std.proofs.Common.{◌-◌}
use Rattle.at_base.proofs.spanned.+place_between.Given as goal

abbrev pub decreases-place_between : goal.decreases-place_between
decreases-place_between g l = l.high - l.low
