use Rattle.ethertalk.proofs.Values.{frame_again, frame_few}
use Rattle.ethertalk.proofs.laws.written_is_read.Goals as goal

pub returns-clause-same : goal.returns-clause-same
returns-clause-same c = frame_again

pub returns-clause-few : goal.returns-clause-few
returns-clause-few c = frame_few
