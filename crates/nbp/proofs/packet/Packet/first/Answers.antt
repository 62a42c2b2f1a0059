use Rattle.std.proofs.Common.{rules, ◌-◌}
use Rattle.at_base.specs.InPlace.{found}
use Rattle.nbp.specs.Packets.{tuples_read}
use Rattle.nbp.proofs.packet.Packet.first.Goals as goal

pub returns-clause-first : goal.returns-clause-first
returns-clause-first c = (found (tuples_read (c.self.inside.count - 1) c.in-Ok.field-0-1.now), search rules)
