use Rattle.resolved_runs.proofs.laws.conservation_with_resolution.Goals as goal
use Rattle.resolved_runs.proofs.Balances.{conserved_resolved}
use Rattle.resolved_runs.proofs.Erased.{erases}

pub returns : goal.returns
returns c = λ i t ok fit legal. (let e = erases i ok fit t legal in conserved_resolved i t ok e.told e.legal)
