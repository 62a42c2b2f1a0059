use Rattle.resolved_runs.proofs.laws.carriage_with_resolution.Goals as goal
use Rattle.legal_runs.proofs.LossyLaws.{handed_with_losses}
use Rattle.resolved_runs.specs.Plain.{plain}
use Rattle.resolved_runs.proofs.CarriedOrHeld.{carried_or_held}
use Rattle.resolved_runs.proofs.TakenThere.{taken_there}
use Rattle.resolved_runs.proofs.Erased.{erases}

pub returns : goal.returns
returns c = record {
  carried = λ i t ok fit legal. (let e = erases i ok fit t legal in carried_or_held i ok t e.told e.legal);
  taken = λ i t ok fit legal. taken_there i t (erases i ok fit t legal).told;
  handed = λ i t ok fit legal. handed_with_losses i (plain i t) ok (erases i ok fit t legal).legal;
}
