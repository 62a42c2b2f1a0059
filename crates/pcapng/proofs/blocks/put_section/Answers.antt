use Rattle.pcapng.specs.Blocks.{section}
use Rattle.pcapng.specs.Fields.{four}
use Rattle.pcapng.proofs.blocks.put_section.Goals as goal

pub returns : goal.returns
unfolding section four
returns c = c.put_bytes.ensures
