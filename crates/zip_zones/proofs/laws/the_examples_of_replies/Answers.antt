use Rattle.std.proofs.Common.{refl}
use Rattle.at_base.specs.Packets.{text}
use Rattle.zip_zones.specs.Formats.{body, packet}
use Rattle.zip_zones.specs.Packets.{entry}
use Rattle.zip_zones.proofs.laws.the_examples_of_replies.Goals as goal

pub returns : goal.returns
unfolding packet body entry text
returns c = record {
  bytes = refl;
  number = refl;
  sixteenth = refl;
  seventeenth = refl;
  incomplete = refl;
  empty = refl;
  split = refl;
  short = refl;
  sizes = (refl, refl);
  full = refl;
  over = refl;
}
