use Rattle.frozen.proofs.Promised.{legal_known}
use Rattle.frozen.specs.Runs.{Running, RunsOver, transcript}
use Rattle.legal_runs.proofs.Carried.{are_carried}
use Rattle.legal_runs.proofs.Conserved.{conserved, hops_are_left}
use Rattle.legal_runs.proofs.Handing.{are_by_hand}
use Rattle.legal_runs.proofs.LookedUp.{are_looked_up}
use Rattle.legal_runs.proofs.Takers.{are_taken_there}
use Rattle.legal_runs.specs.Legal.{IsLegal}
use Rattle.table_image.specs.declared.version.Version.TheVariants.{V1}
use Rattle.frozen.proofs.laws.promises_hold.Goals as goal

legal_of : (r : Running) → RunsOver V1 r → IsLegal r.internet (transcript r)
legal_of r f = legal_known r.internet r.wiring f.0.legal f.1

pub returns : goal.returns
returns c = record {
  legal = legal_of;
  conservation = λ r f. conserved r.internet (transcript r) f.0.passes (legal_of r f);
  hops = λ r f. hops_are_left r.internet (transcript r) f.0.passes (legal_of r f);
  carriage = λ r f. are_carried r.internet (transcript r) f.0.passes (legal_of r f);
  takers = λ r f. are_taken_there r.internet (transcript r) f.0.passes (legal_of r f);
  handed = λ r f. are_by_hand r.internet f.0.passes (transcript r) (legal_of r f);
  lookups = λ r k f only. are_looked_up r.internet (transcript r) k f.0.passes (legal_of r f) only;
}
