use Rattle.std.proofs.Common.{refl}
use Rattle.resolved_runs.proofs.laws.the_resolved_echo_is_legal.Goals as goal
use Rattle.resolved_runs.proofs.Echo.{echo_46}
use Rattle.resolved_runs.proofs.Again.{again_16}

pub returns : goal.returns
returns c = record {
  legal = echo_46;
  entries = refl;
  asked = (refl, refl);
  replied = (refl, refl);
  done = (refl, refl);
  again = again_16;
  entries_again = refl;
}
