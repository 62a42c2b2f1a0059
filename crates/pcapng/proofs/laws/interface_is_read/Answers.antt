use Rattle.pcapng.proofs.Again.{interface_again}
use Rattle.pcapng.proofs.laws.interface_is_read.Goals as goal

pub returns : goal.returns
returns c = interface_again
