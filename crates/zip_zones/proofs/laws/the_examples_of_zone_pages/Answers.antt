use Rattle.std.proofs.Common.{refl}
use Rattle.zip_zones.proofs.laws.the_examples_of_zone_pages.Goals as goal

pub returns : goal.returns
returns c = record {
  asked = refl;
  ignored = refl;
  mine = refl;
  others = (refl, refl);
  all = (refl, refl);
  from_0 = (refl, refl);
  from_2 = (refl, refl);
  from_256 = (refl, refl);
  past = (refl, refl);
  default = (refl, refl);
  no_zone = (refl, refl);
  no_list = (refl, refl);
  long = (refl, refl);
}
