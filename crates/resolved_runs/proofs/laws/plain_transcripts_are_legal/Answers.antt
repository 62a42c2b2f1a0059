use Rattle.resolved_runs.proofs.laws.plain_transcripts_are_legal.Goals as goal
use Rattle.resolved_runs.proofs.Erased.{erases}

pub returns : goal.returns
returns c = λ i t ok fit legal. (erases i ok fit t legal).legal
