use Rattle.std.proofs.Common.{◌≡◌, ℕ, List, drop, length, ap, sym, ◌∙◌, refl}
use Rattle.at_base.specs.Range.{Span}
use Rattle.zip_zones.specs.Indexing.{numbers_from, with_numbers}
use Rattle.zip_zones.proofs.Indexed.{index_rises, indexed_apart, lengthened_index}
use Rattle.zip_zones.proofs.change.lengthen.Goals as goal

pub put_names-requires-clause-rising : goal.put_names-requires-clause-rising
put_names-requires-clause-rising c =
    rw (c.reserve.ensures.items) (index_rises c.args.lists.now.items c.args.index.now.items c.requires.indexed)

pub returns-clause-ok : goal.returns-clause-ok
returns-clause-ok c =
    let lists = c.args.lists.now.items in
    let known = c.args.known in
    let kept = c.args.kept in
    let at = c.requires.at.0 in
    let more = drop kept known.names in
    let numbers : numbers_from c.start.result kept c.split_at.result.1.now
    ≡ numbers_from known.range.start (length at.item.names) more =
    ap (λ (s : ℕ). numbers_from s kept c.split_at.result.1.now) (c.start.ensures.value ∙ ap (λ (r : Span). r.start) c.range.ensures)
    ∙ ap (λ (n : List (List ℕ)). numbers_from known.range.start kept n)
    (c.split_at.ensures.back ∙ ap (λ (n : List (List ℕ)). drop kept n) c.names.ensures)
    ∙ ap (λ (n : ℕ). numbers_from known.range.start n more) c.requires.at.1 in (
      sym (at.put known refl),
      c.put_names.ensures.put ∙ ap (λ (l : List ℕ). with_numbers l c.reserve.new.self.items) numbers
          ∙ ap (with_numbers (numbers_from known.range.start (length at.item.names) more))
          (c.reserve.ensures.items ∙ c.requires.indexed.index)
          ∙ sym (lengthened_index known.range lists c.args.place at known more
          (indexed_apart lists c.args.index.now.items c.requires.indexed) refl c.requires.at.2),
    )
