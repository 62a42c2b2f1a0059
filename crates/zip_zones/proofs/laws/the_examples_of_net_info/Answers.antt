use Rattle.std.proofs.Common.{refl}
use Rattle.at_base.specs.Packets.{text}
use Rattle.zip_zones.specs.Formats.{body, default_zone, packet}
use Rattle.zip_zones.proofs.laws.the_examples_of_net_info.Goals as goal

pub returns : goal.returns
unfolding packet body default_zone text
returns c = record {
  told = refl;
  none = refl;
}
