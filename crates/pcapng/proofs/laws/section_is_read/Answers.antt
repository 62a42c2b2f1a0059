use Rattle.pcapng.proofs.Again.{section_again}
use Rattle.pcapng.proofs.laws.section_is_read.Goals as goal

pub returns : goal.returns
returns c = section_again
