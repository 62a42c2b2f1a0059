use Rattle.std.proofs.Common.{refl}
use Rattle.ddp.specs.Datagram.{datagram}
use Rattle.at_base.specs.Packets.{address, text}
use Rattle.nbp.specs.Packets.{packet, tuple}
use Rattle.legal_runs.specs.Requests.{request, zone_of}
use Rattle.legal_runs.proofs.BlueNames.{names_are_legal}
use Rattle.legal_runs.proofs.laws.the_lookup_is_legal.Goals as goal

pub returns : goal.returns
unfolding request zone_of datagram packet tuple address text
returns c = record { legal = names_are_legal; asked = (refl, refl); looked = (refl, refl, refl) }
