use Rattle.std.proofs.Common.{◌∙◌, refl, sym}
use Rattle.audit.proofs.Firsts.{item_at}
use Rattle.audit.proofs.SameZones.{found_first}
use Rattle.audit.proofs.zone_hints.ZoneHints.ordered.Goals as goal

pub returns-then-same : goal.returns-then-same
returns-then-same c =
    let zones = c.args.zones.now in
    let found = c.in_ok-zone.ensures in
    let at = item_at zones zones _ c.in_ok-zone.zone.now refl found.lookup.3.0 found.lookup.1 in
    found_first zones c.requires c.args.name.now _ c.in_ok-zone.zone.now at (sym c.same.ensures.test ∙ c.if-same.true)
