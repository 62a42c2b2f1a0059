use Rattle.pcapng.proofs.Printed.{frame_told}
use Rattle.pcapng.proofs.reading_laws.packet_is_seen.Goals as goal

pub returns : goal.returns
returns c = frame_told
