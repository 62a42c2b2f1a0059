use Rattle.std.proofs.Common.{refl, sym, ap, ◌+◌, ℕ}
use Rattle.table_image.specs.Spelling.{zone_list_spelling, flag_of}
use Rattle.table_image.proofs.zone_list.ZoneListPassItem.pass_one.Goals as goal

pub returns : goal.returns
unfolding zone_list_spelling
returns c =
    let zones = c.in_ok-_zones.ensures in (
      record { start = c.in_ok-start.start; end = c.in_ok-_end._end; complete = flag_of c.in_ok-_complete._complete; zones = zones.0 },
      rw (c.in_ok-start.ensures, c.in_ok-_end.ensures, c.in_ok-_complete.ensures, zones.1) refl,
      ap (λ (n : ℕ). n + 1) (sym c.from.ensures),
    )
