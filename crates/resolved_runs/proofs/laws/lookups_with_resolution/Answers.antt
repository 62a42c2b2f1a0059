use Rattle.resolved_runs.proofs.laws.lookups_with_resolution.Goals as goal
use Rattle.resolved_runs.proofs.Balances.{looked_up_resolved}
use Rattle.resolved_runs.proofs.Erased.{erases}

pub returns : goal.returns
returns c = λ i t k ok fit legal only. (let e = erases i ok fit t legal in looked_up_resolved i t ok e.told e.legal k only)
