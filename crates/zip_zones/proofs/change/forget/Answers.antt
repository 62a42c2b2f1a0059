use Rattle.std.proofs.Common.{◌≡◌, ℕ, List, ap, sym, ◌∙◌}
use Rattle.at_base.specs.Range.{Span}
use Rattle.at_base.proofs.Spans.{item_read}
use Rattle.zip_zones.specs.Zones.{Known}
use Rattle.zip_zones.specs.Indexing.{index_of, numbers_from, numbers_in, without_numbers}
use Rattle.zip_zones.proofs.Indexed.{index_rises, indexed_apart, none_out, taken_index}
use Rattle.zip_zones.proofs.change.forget.Goals as goal

pub take_names-requires-clause-rising : goal.take_names-requires-clause-rising
take_names-requires-clause-rising c = index_rises c.args.lists.now c.args.index.now.items c.requires.indexed

pub returns-in-Ok-clause-kept : goal.returns-in-Ok-clause-kept
returns-in-Ok-clause-kept c =
    let lists = c.args.lists.now in
    let index = c.args.index.now.items in
    let at = rw (c.in-Ok.is) at c.requires.found in
    let same = item_read (λ k. k.range) c.args.range lists c.in-Ok.place at c.index-lists-place.result c.index-lists-place.is in
    let numbers : numbers_from c.start.result 0 c.names.result.now ≡ numbers_in at.item =
    ap (λ (s : ℕ). numbers_from s 0 c.names.result.now) (c.start.ensures.value ∙ sym (ap (λ (r : Span). r.start) at.own))
    ∙ ap (λ (n : List (List ℕ)). numbers_from at.item.range.start 0 n) (c.names.ensures ∙ sym (ap (λ (k : Known). k.names) same)) in
    c.take_names.ensures.kept ∙ ap (λ (l : List ℕ). without_numbers l index) numbers
    ∙ ap (without_numbers (numbers_in at.item)) c.requires.indexed.index
    ∙ taken_index c.args.range lists c.in-Ok.place at (indexed_apart lists index c.requires.indexed)

pub returns-in-Err-clause-kept : goal.returns-in-Err-clause-kept
returns-in-Err-clause-kept c =
    let before = rw (c.in-Err.is) at c.requires.missing in
    c.requires.indexed.index ∙ ap index_of (sym (none_out c.args.range c.args.lists.now before.none))
