use Rattle.settled.proofs.Examples.{bad_changes, both_pass, long_changes, short_stays}
use Rattle.settled.proofs.laws.the_examples_are_judged.Goals as goal

pub returns : goal.returns
returns c = record { long = long_changes; short = short_stays; bad = bad_changes; pass = both_pass }
