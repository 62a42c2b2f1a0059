use Rattle.std.proofs.Common.{◌+◌, ◌∷◌, filter, length-take, not, refl, arith}
use Rattle.at_base.specs.Address.{same_address}
use Rattle.at_base.specs.Limits.{max_mappings}
use Rattle.aarp.proofs.Known.{cut_again, put_entries-learnt, same_is}
use Rattle.aarp.proofs.mapper.Mapper.learn.Goals as goal

pub returns-clause-ok : goal.returns-clause-ok
returns-clause-ok c =
    let valid = c.len-len.ensures.valid in
    let put = c.in_ok-put.ensures.entries in
    let known = c.self.inside.known in
    let is = put_entries-learnt same_address same_is known c.args.addr c.args.hw valid.0 valid.1 valid.2 in
    let all = (c.args.addr, c.args.hw) ∷ filter (λ m. not (same_address c.args.addr m.0)) known.entries in
    rw (c.discard.ensures, put, is, c.self.invariant.0, cut_again max_mappings (max_mappings + 1) all (omega arith), ← c.self.view_is) refl

pub returns-clause-few : goal.returns-clause-few
returns-clause-few c = rw c.discard.ensures (omega (arith, length-take max_mappings c.put.new.self.entries))
