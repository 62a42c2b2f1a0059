use Rattle.pcapng.proofs.Again.{packet_again}
use Rattle.pcapng.proofs.laws.packet_is_read.Goals as goal

pub returns : goal.returns
returns c = packet_again
