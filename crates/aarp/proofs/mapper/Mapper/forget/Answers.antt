use Rattle.std.proofs.Common.{refl}
use Rattle.at_base.specs.Address.{same_address}
use Rattle.aarp.proofs.Known.{forgotten_unknown, removed-forgotten, same_is}
use Rattle.aarp.proofs.mapper.Mapper.forget.Goals as goal

pub returns-clause-forgotten : goal.returns-clause-forgotten
returns-clause-forgotten c =
    let valid = c.len-len.ensures.valid in
    let is = removed-forgotten same_address same_is c.args.addr c.self.inside.known.entries valid.0 in
    rw (c.pop-forgotten.ensures.entries, is, ← c.self.view_is) refl

pub returns-clause-unknown : goal.returns-clause-unknown
returns-clause-unknown c =
    let valid = c.len-len.ensures.valid in
    let is = removed-forgotten same_address same_is c.args.addr c.self.inside.known.entries valid.0 in
    rw (c.pop-forgotten.ensures.entries, is) (forgotten_unknown c.args.addr c.self.inside.known.entries)
