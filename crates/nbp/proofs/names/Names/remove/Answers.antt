use Rattle.nbp.proofs.Registering.{names_without}
use Rattle.nbp.proofs.names.Names.remove.Goals as goal

pub invariant_of-self : goal.invariant_of-self
invariant_of-self c = rw c.take_out.ensures (names_without c.args.enumerator c.self.inside.names.items c.self.invariant)
