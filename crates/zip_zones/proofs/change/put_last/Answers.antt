use Rattle.std.proofs.Common.{◌≡◌, ℕ, List, ap, sym, ◌∙◌}
use Rattle.at_base.specs.Range.{Span}
use Rattle.zip_zones.specs.Indexing.{numbers_from, numbers_in, with_numbers}
use Rattle.zip_zones.proofs.Indexed.{index_rises, last_index}
use Rattle.zip_zones.proofs.change.put_last.Goals as goal

pub put_names-requires-clause-rising : goal.put_names-requires-clause-rising
put_names-requires-clause-rising c = rw (c.reserve-2.ensures.items) (index_rises c.args.lists.now.items c.args.index.now.items c.requires.indexed)

pub returns-clause-ok : goal.returns-clause-ok
returns-clause-ok c =
    let lists = c.args.lists.now.items in
    let known = c.args.known in
    let numbers : numbers_from c.start.result 0 c.names-2.result.now ≡ numbers_in known =
    ap (λ (s : ℕ). numbers_from s 0 c.names-2.result.now) (c.start.ensures.value ∙ ap (λ (r : Span). r.start) c.range.ensures)
    ∙ ap (λ (n : List (List ℕ)). numbers_from known.range.start 0 n) c.names-2.ensures in (
      rw (c.unwrap.ensures, c.reserve.ensures.items) at c.push.ensures.items,
      c.put_names.ensures.put ∙ ap (λ (l : List ℕ). with_numbers l c.reserve-2.new.self.items) numbers
          ∙ ap (with_numbers (numbers_in known)) (c.reserve-2.ensures.items ∙ c.requires.indexed.index) ∙ sym (last_index lists known),
    )
