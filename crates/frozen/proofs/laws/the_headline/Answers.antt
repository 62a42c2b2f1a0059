use Rattle.frozen.proofs.AtRest.{at_rest_arrived, at_rest_looked_up, at_rest_taken, not_looked_up, nowhere_else}
use Rattle.frozen.proofs.Promised.{all_carried, each_once}
use Rattle.frozen.proofs.laws.the_headline.Goals as goal

pub returns : goal.returns
returns c = record {
  audited = λ r f. f.passes;
  each_once = each_once;
  carried = all_carried;
  arrived = at_rest_arrived;
  nowhere_else = nowhere_else;
  taken = at_rest_taken;
  looked_up = at_rest_looked_up;
  not_looked_up = not_looked_up;
}
