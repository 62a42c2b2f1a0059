use Rattle.std.proofs.Common.{refl}
use Rattle.resolved_runs.proofs.laws.examples_have_plain_transcripts.Goals as goal
use Rattle.resolved_runs.proofs.PlainEcho.{plain_16}

pub returns : goal.returns
returns c = record { echo = refl; legal = plain_16; nobody = refl; mapped = refl; ring = (refl, refl, refl) }
