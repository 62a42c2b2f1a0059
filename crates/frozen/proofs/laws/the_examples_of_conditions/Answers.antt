use Rattle.frozen.proofs.Examples.{asks, at_rest, not_at_rest, not_forwards, not_looks, other_type}
use Rattle.frozen.proofs.laws.the_examples_of_conditions.Goals as goal

pub returns : goal.returns
returns c = record {
  asks = asks;
  other_type = other_type;
  forwards = not_forwards;
  looks = not_looks;
  under_way = not_at_rest;
  at_rest = at_rest;
}
