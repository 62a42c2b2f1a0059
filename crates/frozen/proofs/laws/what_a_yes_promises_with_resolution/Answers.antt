use Rattle.frozen.proofs.Promised.{all_carried}
use Rattle.frozen.proofs.Sentence.{every_moment_two, heard_two, looked_up_two, lossless_two, reached_two}
use Rattle.frozen.proofs.laws.what_a_yes_promises_with_resolution.Goals as goal

pub returns : goal.returns
returns c = record {
  audited = λ r f. f.0.passes;
  every_moment = every_moment_two;
  carried = λ r f. all_carried r f.0;
  reached = reached_two;
  heard = heard_two;
  looked_up = looked_up_two;
  lossless = lossless_two;
}
