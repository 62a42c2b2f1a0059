use Rattle.std.proofs.Common.{◌-◌}
use Rattle.atp.proofs.repeats.+put_from.Given as goal

abbrev pub decreases-put_from : goal.decreases-put_from
decreases-put_from l = 65536 - l.first
