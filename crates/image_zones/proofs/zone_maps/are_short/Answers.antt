use Rattle.std.proofs.Common.{◌∙◌}
use Rattle.image_zones.proofs.ZoneTables.{all_few}
use Rattle.image_zones.proofs.zone_maps.are_short.Goals as goal

pub returns : goal.returns
returns c = c.are_each_short.ensures ∙ all_few c.args.lists.now c.requires
