use Rattle.std.specs.Prelude.{length}
use Rattle.aarp.proofs.chooser.+come_before.Given as goal

abbrev pub decreases-come_before : goal.decreases-come_before
decreases-come_before l = length l.bytes.now
