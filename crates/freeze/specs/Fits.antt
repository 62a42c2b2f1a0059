-- Cables and zone lists whose numbers and zones fit their fields in an image.
use Rattle.std.specs.Prelude.{◌<◌, ◌^◌}
use Rattle.std.specs.List.{AllByRecursion as Each}
use Rattle.at_base.specs.Text.{IsName}
use Rattle.table_image.specs.declared.cable.Cable.{Cable}
use Rattle.table_image.specs.declared.zone_list.ZoneList.{ZoneList}

-- The numbers of a zone list fit its fields, and each zone is a valid name.
pub record FitsList (l : ZoneList) : Type 0 where
  pub start : l.start < 2 ^ 16
  pub end : l.end < 2 ^ 16
  pub zones : Each IsName l.zones

-- The numbers of a cable fit its fields, and each zone is a valid name.
pub record FitsCable (c : Cable) : Type 0 where
  pub start : c.start < 2 ^ 16
  pub end : c.end < 2 ^ 16
  pub zones : Each IsName c.zones
