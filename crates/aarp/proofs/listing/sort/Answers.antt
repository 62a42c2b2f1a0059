use Rattle.std.proofs.Common.{rules}
use Rattle.std.proofs.lemmas.List.Sorted.{IsNonDecreasingBy-from_sort_by_key}
use Rattle.at_base.specs.declared.address.Addr.{Addr}
use Rattle.at_base.specs.declared.address.Hw.{Hw}
use Rattle.aarp.specs.Mapping.{address_number}
use Rattle.aarp.proofs.Ordered.{sorted_is}
use Rattle.aarp.proofs.listing.sort.Goals as goal

pub returns : goal.returns
returns c =
    let up = IsNonDecreasingBy-from_sort_by_key (λ (p : Addr × Hw). address_number p.0) _ c.sort_unstable_by_key.ensures.sorted
    (λ a r q k. search rules) in
    let sorted = sorted_is c.args.all.now.items c.sort_unstable_by_key.new.self.items c.requires.fits c.requires.distinct
    c.sort_unstable_by_key.ensures.permutation up in
    record { sorted = sorted.is; rises = sorted.rises; fits = sorted.fits; number = sorted.number }
