use Rattle.std.proofs.Common.{refl}
use Rattle.table_image.specs.Spelling.{cable_spelling}
use Rattle.table_image.proofs.cable.CablePassItem.pass_one.Goals as goal

pub returns : goal.returns
unfolding cable_spelling
returns c =
    let zones = c.in_ok-_zones.ensures in (
      record { start = c.in_ok-_start._start; end = c.in_ok-_end._end; zones = zones.0 },
      rw
          (c.in_ok-_start.ensures, c.in_ok-_end.ensures, zones.1) refl,
      refl,
    )
