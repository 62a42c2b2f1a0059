use Rattle.resolved_runs.proofs.laws.held_datagrams_are_asked_for.Goals as goal
use Rattle.resolved_runs.proofs.AskedRuns.{asked_for}
use Rattle.resolved_runs.proofs.Erased.{erases}
use Rattle.resolved_runs.proofs.HeldStamps.{held_once, put_once}

pub returns : goal.returns
returns c = record {
  once = λ i t ok fit legal. held_once i t (erases i ok fit t legal).told;
  put_once = λ i t ok fit legal. put_once i t (erases i ok fit t legal).told;
  asked = λ i t ok fit legal. asked_for i ok fit t legal;
}
