use Rattle.std.proofs.Common.{refl}
use Rattle.frozen.proofs.ExampleRuns.{echo_asks, echo_at_rest, echo_runs, nobody_asks, nobody_at_rest, nobody_runs}
use Rattle.frozen.proofs.laws.the_conditions_can_be_met.Goals as goal

pub returns : goal.returns
returns c = record {
  one = (echo_runs, echo_at_rest, echo_asks);
  reached = (refl, refl);
  two = (nobody_runs, refl, nobody_at_rest, nobody_asks);
  held = (refl, refl, refl);
}
