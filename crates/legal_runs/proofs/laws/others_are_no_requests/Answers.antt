use Rattle.std.proofs.Common.{refl}
use Rattle.at_base.specs.Packets.{address, text}
use Rattle.ddp.specs.Datagram.{datagram}
use Rattle.nbp.specs.Packets.{packet, tuple}
use Rattle.legal_runs.specs.Requests.{request}
use Rattle.legal_runs.proofs.laws.others_are_no_requests.Goals as goal

pub returns : goal.returns
unfolding request datagram packet tuple address text
returns c = record { request = refl; socket = refl; kind = refl }
