use Rattle.resolved_runs.proofs.laws.full_rings_give_up_their_oldest.Goals as goal
use Rattle.resolved_runs.proofs.NotLost.{nothing_given_up}
use Rattle.resolved_runs.proofs.Rings.{none_shed, rings}

pub returns : goal.returns
returns c = record {
  reached = λ i t legal. (rings i t legal).reached;
  most = λ i t station cable legal. (rings i t legal).few station cable;
  oldest = λ i t legal. (rings i t legal).shed;
  none = λ i t legal few. nothing_given_up i t (none_shed t (rings i t legal).shed few);
}
