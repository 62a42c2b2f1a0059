use Rattle.std.proofs.Common.{◌≡◌, ℕ, List, flat_map, ap, sym, ◌∙◌}
use Rattle.at_base.specs.Range.{Span}
use Rattle.at_base.proofs.Numbers.{rises}
use Rattle.zip_zones.specs.Zones.{Known, without}
use Rattle.zip_zones.specs.Indexing.{index_of, numbers_from, numbers_in, with_numbers}
use Rattle.zip_zones.proofs.Indexed.{indexed_apart, put_index}
use Rattle.zip_zones.proofs.change.put_list.Goals as goal

pub put_names-requires-clause-rising : goal.put_names-requires-clause-rising
put_names-requires-clause-rising c =
    rw (c.forget.ensures.kept) (rises (flat_map numbers_in (without c.range.result c.as_slice.result.now)))

pub returns-clause-index : goal.returns-clause-index
returns-clause-index c =
    let lists = c.args.lists.now.items in
    let known = c.args.known in
    let numbers : numbers_from c.start.result 0 c.names.result.now ≡ numbers_in known =
    ap (λ (s : ℕ). numbers_from s 0 c.names.result.now) (c.start.ensures.value ∙ ap (λ (r : Span). r.start) c.range-2.ensures)
    ∙ ap (λ (n : List (List ℕ)). numbers_from known.range.start 0 n) c.names.ensures in
    let others : c.forget.new.index.items ≡ index_of (without known.range lists) =
    c.forget.ensures.kept ∙ ap (λ (r : Span). index_of (without r c.as_slice.result.now)) c.range.ensures
    ∙ ap (λ (l : List Known). index_of (without known.range l)) c.as_slice.ensures.value in
    c.put_names.ensures.put ∙ ap (λ (l : List ℕ). with_numbers l c.forget.new.index.items) numbers
    ∙ ap (with_numbers (numbers_in known)) others
    ∙ sym (put_index known lists (indexed_apart lists c.args.index.now.items c.requires.indexed))
