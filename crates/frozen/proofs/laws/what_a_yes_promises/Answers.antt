use Rattle.frozen.proofs.Promised.{all_carried}
use Rattle.frozen.proofs.Sentence.{every_moment_one, looked_up_one, reached_one}
use Rattle.frozen.proofs.laws.what_a_yes_promises.Goals as goal

pub returns : goal.returns
returns c = record {
  audited = λ r f. f.0.passes;
  every_moment = every_moment_one;
  carried = λ r f. all_carried r f.0;
  reached = reached_one;
  looked_up = looked_up_one;
}
