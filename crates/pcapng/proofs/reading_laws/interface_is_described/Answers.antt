use Rattle.pcapng.proofs.Laid.{name_few}
use Rattle.pcapng.proofs.Printed.{interface_told}
use Rattle.pcapng.specs.Captures.{cable_name}
use Rattle.pcapng.proofs.reading_laws.interface_is_described.Goals as goal

pub returns : goal.returns
returns c = λ is cable start end rest room k s e. interface_told is (cable_name cable start end) rest (name_few cable start end k s e) room
