use Rattle.resolved_runs.proofs.laws.datagrams_are_heard.Goals as goal
use Rattle.resolved_runs.proofs.AskedRuns.{asked_for}
use Rattle.resolved_runs.proofs.Erased.{erases}
use Rattle.resolved_runs.proofs.Heard.{heard_always, heard_resolved}

pub returns : goal.returns
returns c = record {
  always = λ i t ok fit legal. (let e = erases i ok fit t legal in heard_always i t ok e.told e.legal);
  at_rest = λ i t ok fit legal. (let e = erases i ok fit t legal in heard_resolved i t ok e.told e.legal (asked_for i ok fit t legal));
}
