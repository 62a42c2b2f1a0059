use Rattle.audit.proofs.laws.the_example_passes.Goals as goal
use Rattle.audit.proofs.ExampleWalks.{example_passes, example_walk}

pub returns : goal.returns
returns c = record { passes = example_passes; walk = example_walk }
