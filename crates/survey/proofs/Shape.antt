-- The format of a name in a list of zones: its projection gives its part.
use Rattle.std.proofs.Common.{ℕ, ◌≤◌, List, [], ◌∷◌, length, refl, arith}
use Rattle.at_base.specs.Spelling.{IsValue, bytes_of}
use Rattle.at_base.specs.Lawful.{IsLawful}
use Rattle.at_base.proofs.Packets.{text_lawful}
use Rattle.at_base.specs.Packets.{text}
use Rattle.at_base.specs.Limits.{max_data}
use Rattle.survey.specs.Answers.{zone_item}
use Rattle.survey.specs.Questions.{zones_asked}
use Rattle.zip_zones.specs.Formats.{body, packet}
use Rattle.zip_zones.specs.Packets.{network, wrong_name}

pub item_lawful : IsLawful zone_item
unfolding zone_item
item_lawful = (text_lawful 1 wrong_name, λ name r. (refl, tt))

pub item_long : (low : ℕ) (name : List ℕ) → IsValue zone_item name → 1 ≤ length (bytes_of zone_item name)
unfolding zone_item text
item_long low name h = omega arith

-- the data of a query for one network
pub query_short : (net : ℕ) → length (zones_asked net) ≤ max_data
unfolding packet body network
query_short net = omega arith
