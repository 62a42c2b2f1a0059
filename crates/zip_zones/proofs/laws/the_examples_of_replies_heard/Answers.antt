use Rattle.std.proofs.Common.{refl}
use Rattle.zip_zones.proofs.laws.the_examples_of_replies_heard.Goals as goal

pub returns : goal.returns
returns c = record {
  named = refl;
  completed = refl;
  listed = refl;
  order = refl;
  direct = refl;
  bad = refl;
  unknown = refl;
  overlaps = refl;
  total = refl;
  doubled = refl;
  others = refl;
}
