use Rattle.std.proofs.Common.{◌≡◌, ◌+◌, ◌≤◌, ◌∷◌, length, take, refl, arith}
use Rattle.std.proofs.lemmas.List.{take_all}
use Rattle.at_base.specs.Address.{same_address}
use Rattle.at_base.specs.Limits.{max_mappings}
use Rattle.aarp.proofs.Known.{put_entries-learnt, same_is, unknown_apart}
use Rattle.aarp.proofs.mapper.Mapper.meet.Goals as goal

pub returns-clause-ok : goal.returns-clause-ok
returns-clause-ok c =
    let valid = c.len-len.ensures.valid in
    let put = c.in_ok-put.ensures.entries in
    let known = c.self.inside.known.entries in
    let is = put_entries-learnt same_address same_is c.self.inside.known c.args.addr c.args.hw valid.0 valid.1 valid.2 in
    let apart = unknown_apart c.args.addr known (rw (← c.self.view_is) at c.requires.unknown) in
    let few : length known ≤ max_mappings = rw (← c.self.view_is) at c.requires.few in
    let whole : take (max_mappings + 1) ((c.args.addr, c.args.hw) ∷ known) ≡ (c.args.addr, c.args.hw) ∷ known =
    take_all (max_mappings + 1) ((c.args.addr, c.args.hw) ∷ known) (omega (arith, few)) in
    rw (put, is, c.self.invariant.0, apart, whole, ← c.self.view_is) refl
