use Rattle.audit.proofs.laws.loops_have_no_walk.Goals as goal
use Rattle.audit.proofs.ExampleWalks.{never_ends, no_walk_home, no_step, loop_is_listed, loop_keeps_others}

pub returns : goal.returns
returns c = record {
  no_walk = never_ends;
  no_walk_home = no_walk_home;
  no_step = no_step;
  listed = loop_is_listed;
  others =
      loop_keeps_others;
}
