use Rattle.std.proofs.Common.{◌∙◌, ap, sym}
use Rattle.audit.proofs.SameZones.{AreZones, the_zones}
use Rattle.audit.proofs.zone_sets.are_zones_of.Goals as goal

pub returns-then-are_spelled_alike : goal.returns-then-are_spelled_alike
returns-then-are_spelled_alike c =
    let zones = c.args.zones.now in
    let same = c.are_spelled_alike.ensures c.if-are_spelled_alike.true in
    the_zones zones c.requires.once ∙ ap (AreZones zones) (sym same)
