use Rattle.atp.proofs.Complete.{asks_missing, complete, waiting}
use Rattle.atp.proofs.laws.complete_response.Goals as goal

pub returns : goal.returns
returns c = record {
  complete = λ steps id ask parts is. complete steps id ask parts is;
  waiting = λ steps id ask is. waiting steps id ask is;
  missing = λ steps id ask i is. asks_missing steps id ask i is;
}
