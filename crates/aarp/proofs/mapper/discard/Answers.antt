use Rattle.std.proofs.Common.{arith, ap, sym, ◌∙◌}
use Rattle.std.proofs.lemmas.List.{take_all}
use Rattle.lru.specs.LruCache.{lru_cache}
use Rattle.at_base.specs.Limits.{max_mappings}
use Rattle.aarp.proofs.Known.{above_cut}
use Rattle.aarp.proofs.mapper.discard.Goals as goal

pub returns-then-len-gt-MAX_MAPPINGS : goal.returns-then-len-gt-MAX_MAPPINGS
returns-then-len-gt-MAX_MAPPINGS c =
    let known = c.args.known.now in
    let len = c.len.ensures.len in
    let few = c.len.ensures.valid.1 in
    let more = c.if-len-gt-MAX_MAPPINGS.true in
    c.pop_lru-discarded.ensures.entries
    ∙ ap (λ es. lru_cache es known.cap)
    (above_cut max_mappings known.entries (omega (arith, len, more)) (omega (arith, few, c.requires)))

pub returns-else-len-gt-MAX_MAPPINGS : goal.returns-else-len-gt-MAX_MAPPINGS
returns-else-len-gt-MAX_MAPPINGS c =
    let known = c.args.known.now in
    let len = c.len.ensures.len in
    let few = c.if-len-gt-MAX_MAPPINGS.false in
    ap (λ es. lru_cache es known.cap) (sym (take_all max_mappings known.entries (omega (arith, len, few))))
