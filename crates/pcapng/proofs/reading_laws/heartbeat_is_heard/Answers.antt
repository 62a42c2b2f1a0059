use Rattle.pcapng.proofs.Printed.{heartbeat_told}
use Rattle.pcapng.proofs.reading_laws.heartbeat_is_heard.Goals as goal

pub returns : goal.returns
returns c = λ is time rest t there. heartbeat_told is time rest t there
