use Rattle.std.proofs.Common.{◌≡◌, arith, false, sym, true, Some, ◌∙◌}
use Rattle.at_base.specs.declared.error.Error.TheVariants.{BadRange, Full, NoSuch}
use Rattle.at_base.specs.declared.error.What.TheVariants as what
use Rattle.image_stations.proofs.Refusals.{last_of_four}
use Rattle.image_stations.proofs.ZoneRanges.{few_zones_at, zone_ranges_at}
use Rattle.image_stations.proofs.routers.zones_of.Goals as goal

pub returns-clause-refused : goal.returns-clause-refused
returns-clause-refused c =
    let i = c.args.image.now in
    let there = c.requires.there in
    let bounded = c.routers-routers.ensures.bounded in
    let valid = zone_ranges_at i c.args.index c.requires.passes bounded there in
    let few = few_zones_at i c.args.index c.requires.passes bounded there in
    last_of_four (NoSuch what.Router) BadRange Full c.zones_of.result c.zones_of.ensures.refused
    (λ e. let past = c.zones_of.ensures.none.0 e in omega (arith, there, past))
    (λ e. let bad : Some true ≡ Some false = sym valid ∙ c.zones_of.ensures.range.0 e in cc)
    (λ e. let bad : Some true ≡ Some false = sym few ∙ (c.zones_of.ensures.full.0 e).1 in cc)
