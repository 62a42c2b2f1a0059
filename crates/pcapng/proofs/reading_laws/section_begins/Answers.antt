use Rattle.pcapng.proofs.Printed.{section_told}
use Rattle.pcapng.proofs.reading_laws.section_begins.Goals as goal

pub returns : goal.returns
returns c = section_told
