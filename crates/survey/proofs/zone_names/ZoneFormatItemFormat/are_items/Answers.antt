use Rattle.survey.proofs.Shape.{item_lawful, item_long}
use Rattle.survey.proofs.zone_names.ZoneFormatItemFormat.are_items.Goals as goal

pub returns : goal.returns
returns c = ((λ low. item_lawful), item_long)
