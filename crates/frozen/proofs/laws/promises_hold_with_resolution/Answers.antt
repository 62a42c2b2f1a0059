use Rattle.frozen.proofs.Promised.{legal_resolved}
use Rattle.frozen.specs.Runs.{Running, RunsOver, transcript}
use Rattle.legal_runs.proofs.LossyLaws.{handed_with_losses}
use Rattle.resolved_runs.proofs.AskedRuns.{asked_for}
use Rattle.resolved_runs.proofs.Balances.{conserved_resolved, hops_resolved, looked_up_resolved}
use Rattle.resolved_runs.proofs.CarriedOrHeld.{carried_or_held}
use Rattle.resolved_runs.proofs.Erased.{Erases, erases}
use Rattle.resolved_runs.proofs.Heard.{heard_always}
use Rattle.resolved_runs.proofs.HeldStamps.{held_once, put_once}
use Rattle.resolved_runs.proofs.TakenThere.{taken_there}
use Rattle.resolved_runs.specs.Fitting.{SeatsFit}
use Rattle.resolved_runs.specs.Plain.{plain}
use Rattle.resolved_runs.specs.ResolvedRuns.{IsLegalResolved}
use Rattle.table_image.specs.declared.version.Version.TheVariants.{V2}
use Rattle.frozen.proofs.laws.promises_hold_with_resolution.Goals as goal

legal_of : (r : Running) → RunsOver V2 r → SeatsFit r.internet × IsLegalResolved r.internet (transcript r)
legal_of r f = legal_resolved r.internet r.wiring f.0.legal f.1

erased : (r : Running) (f : RunsOver V2 r) → Erases r.internet f.0.passes (legal_of r f).0 (transcript r)
erased r f = let legal = legal_of r f in erases r.internet f.0.passes legal.0 (transcript r) legal.1

pub returns : goal.returns
returns c = record {
  legal = λ r f. (legal_of r f).1;
  conservation = λ r f. let e = erased r f in conserved_resolved r.internet (transcript r) f.0.passes e.told e.legal;
  hops = λ r f. let e = erased r f in hops_resolved r.internet (transcript r) f.0.passes e.told e.legal;
  carriage = λ r f. let e = erased r f in carried_or_held r.internet f.0.passes (transcript r) e.told e.legal;
  takers = λ r f. taken_there r.internet (transcript r) (erased r f).told;
  handed = λ r f. handed_with_losses r.internet (plain r.internet (transcript r)) f.0.passes (erased r f).legal;
  lookups = λ r k f only. let e = erased r f in looked_up_resolved r.internet (transcript r) f.0.passes e.told e.legal k only;
  held_once = λ r f. held_once r.internet (transcript r) (erased r f).told;
  put_once = λ r f. put_once r.internet (transcript r) (erased r f).told;
  asked_for = λ r f. let legal = legal_of r f in asked_for r.internet f.0.passes legal.0 (transcript r) legal.1;
  heard = λ r f. let e = erased r f in heard_always r.internet (transcript r) f.0.passes e.told e.legal;
}
