use Rattle.std.proofs.Common.{◌≡◌, ◌++◌, ◌∷◌, ℕ, List, [], true, false, length, slice_set, ap, sym, ◌∙◌}
use Rattle.at_base.specs.Range.{same_range}
use Rattle.at_base.proofs.Spans.{item_read}
use Rattle.zip_zones.specs.Zones.{Known, has_zone, is_complete}
use Rattle.zip_zones.specs.Indexing.{index_of}
use Rattle.zip_zones.proofs.Indexed.{heard_again, heard_complete, heard_last, index_rises, indexed_apart, longer_index}
use Rattle.zip_zones.proofs.Having.{given_has}
use Rattle.zip_zones.proofs.change.go_on.Goals as goal

pub returns-then-is_complete-clause-ok : goal.returns-then-is_complete-clause-ok
returns-then-is_complete-clause-ok c =
    let lists = c.args.lists.now.items in
    let at = c.requires.at.0 in
    let same = item_read (λ k. k.range) c.args.range lists c.args.place at c.index.result.now c.index.ensures in
    let complete : is_complete at.item ≡ true = ap is_complete same ∙ sym c.is_complete.ensures ∙ c.if-is_complete.true in
    let e = heard_complete c.args.range c.args.total c.args.name.now lists c.args.place at c.requires.at.1 complete in
    (e, c.requires.indexed.index ∙ ap index_of e)

pub has-requires-clause-rising : goal.has-requires-clause-rising
has-requires-clause-rising c = rw (c.as_slice.ensures.value) (index_rises c.args.lists.now.items c.args.index.now.items c.requires.indexed)

pub has-requires-clause-indexed : goal.has-requires-clause-indexed
has-requires-clause-indexed c =
    let lists = c.args.lists.now.items in
    let name = c.args.name.now in
    let at = c.requires.at.0 in
    let same = item_read (λ k. k.range) c.args.range lists c.args.place at c.index-2.result.now c.index-2.ensures in
    given_has (λ k. same_range k.range c.args.range) lists c.args.index.now.items at.item name c.index-2.result.now.names
    c.index-2.result.now.range.start c.as_slice.result.now c.requires.indexed at.found (sym (ap (λ (k : Known). k.names) same))
    (sym (ap (λ (k : Known). k.range.start) same)) c.as_slice.ensures.value
    ∙ ap (has_zone name) same

pub returns-then-has-clause-ok : goal.returns-then-has-clause-ok
returns-then-has-clause-ok c =
    let lists = c.args.lists.now.items in
    let name = c.args.name.now in
    let at = c.requires.at.0 in
    let same = item_read (λ k. k.range) c.args.range lists c.args.place at c.index-2.result.now c.index-2.ensures in
    let has : has_zone name at.item ≡ true = ap (has_zone name) same ∙ sym c.has.ensures ∙ c.if-has.true in
    let e = heard_again c.args.range c.args.total name lists c.args.place at c.requires.at.1 has in
    (e, c.requires.indexed.index ∙ ap index_of e)

pub put_name-requires-clause-rising : goal.put_name-requires-clause-rising
put_name-requires-clause-rising c =
    rw (c.reserve.ensures.items) (index_rises c.args.lists.now.items c.args.index.now.items c.requires.indexed)

pub returns-clause-ok : goal.returns-clause-ok
returns-clause-ok c =
    let lists = c.args.lists.now.items in
    let name = c.args.name.now in
    let at = c.requires.at.0 in
    let read = λ (k : Known). item_read (λ k. k.range) c.args.range lists c.args.place at k in
    let same = read c.index.result.now c.index.ensures in
    let same_too = read c.index-2.result.now c.index-2.ensures in
    let long = read c.index-3.result.now c.index-3.ensures in
    let entry = read c.index_mut.result.now c.index_mut.ensures.value in
    let more : is_complete at.item ≡ false = ap is_complete same ∙ sym c.is_complete.ensures ∙ c.if-is_complete.false in
    let none : has_zone name at.item ≡ false = ap (has_zone name) same_too ∙ sym c.has.ensures ∙ c.if-has.false in
    let longer = heard_last c.args.range c.args.total name lists c.args.place at c.requires.at.1 more none in
    let nth : length c.names.result.now ≡ length at.item.names =
    ap (λ (n : List (List ℕ)). length n) (c.names.ensures ∙ sym (ap (λ (k : Known). k.names) long)) in
    let put = rw (c.start.ensures.value, nth, c.reserve.ensures.items, c.requires.indexed.index) at c.put_name.ensures.put in (
      ap (slice_set lists c.args.place) (c.in_ok-push.ensures.ok
          ∙ sym (ap (λ (k : Known). record k { names = k.names ++ name ∷ [] }) entry)) ∙ longer,
      put ∙ sym (longer_index c.args.range lists c.args.place at name (indexed_apart lists c.args.index.now.items c.requires.indexed))
          ∙ ap index_of longer,
    )
