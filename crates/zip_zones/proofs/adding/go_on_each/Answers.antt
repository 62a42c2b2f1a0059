use Rattle.std.proofs.Common.{◌≡◌, ℕ, List, [], append-nil, ap, sym, ◌∙◌, refl, arith}
use Rattle.std.specs.List.{list_any}
use Rattle.at_base.specs.Range.{same_range}
use Rattle.at_base.specs.Text.{same_name}
use Rattle.at_base.proofs.Lists.{found_all}
use Rattle.at_base.proofs.Spans.{item_read}
use Rattle.zip_zones.specs.Answers.{with_names}
use Rattle.zip_zones.specs.Zones.{Known, is_known, list_of}
use Rattle.zip_zones.proofs.Added.{each_known, each_on, each_own, goes_on}
use Rattle.zip_zones.proofs.Having.{given_has}
use Rattle.zip_zones.proofs.Indexed.{index_rises}
use Rattle.zip_zones.proofs.Tables.{known_parts}
use Rattle.zip_zones.proofs.adding.go_on_each.Goals as goal

pub hear_each-requires-clause-rising : goal.hear_each-requires-clause-rising
hear_each-requires-clause-rising c =
    rw c.as_slice.ensures.value (index_rises c.args.lists.now.items c.args.index.now.items c.requires.indexed)

pub hear_each-requires-clause-indexed : goal.hear_each-requires-clause-indexed
hear_each-requires-clause-indexed c zone =
    let lists = c.args.lists.now.items in
    let at = c.requires.at.0 in
    let read = λ (k : Known). item_read (λ k. k.range) c.args.range lists c.args.place at k in
    let kept = c.names-kept.ensures ∙ sym (ap (λ (k : Known). k.names) (read c.index.result.now c.index.ensures)) in
    let known = c.in_ok-known.ensures.ok ∙ sym (read c.index-2.result.now c.index-2.ensures) in
    given_has (λ k. same_range k.range c.args.range) lists c.args.index.now.items at.item zone c.names-kept.result.now
    c.in_ok-known.known.range.start c.as_slice.result.now c.requires.indexed at.found kept
    (ap (λ (k : Known). k.range.start) known) c.as_slice.ensures.value
    ∙ ap (λ (n : List (List ℕ)). list_any (same_name zone) n) (sym kept)

pub lengthen-requires-clause-at : goal.lengthen-requires-clause-at
lengthen-requires-clause-at c =
    let lists = c.args.lists.now.items in
    let entries = c.args.entries in
    let at = c.requires.at.0 in
    let read = λ (k : Known). item_read (λ k. k.range) c.args.range lists c.args.place at k in
    let kept = c.names-kept.ensures ∙ sym (ap (λ (k : Known). k.names) (read c.index.result.now c.index.ensures)) in
    let known = c.in_ok-known.ensures.ok ∙ sym (read c.index-2.result.now c.index-2.ensures) in
    let after : c.hear_each.new.known ≡ with_names entries at.item =
    c.in_ok-hear_each.ensures.ok ∙ ap (with_names entries) known in
    let names = at.item.names in
    rw (after, each_own entries at.item ∙ at.own, kept)
    (at, refl, each_on names entries at.item (goes_on names [] names (sym (append-nil names))))

pub lengthen-requires-clause-few : goal.lengthen-requires-clause-few
lengthen-requires-clause-few c =
    let lists = c.args.lists.now.items in
    let entries = c.args.entries in
    let at = c.requires.at.0 in
    let read = λ (k : Known). item_read (λ k. k.range) c.args.range lists c.args.place at k in
    let known = c.in_ok-known.ensures.ok ∙ sym (read c.index-2.result.now c.index-2.ensures) in
    let after : c.hear_each.new.known ≡ with_names entries at.item =
    c.in_ok-hear_each.ensures.ok ∙ ap (with_names entries) known in
    let good = each_known entries at.item (found_all is_known _ lists at.item c.requires.indexed.map.each at.found) in
    let parts = known_parts (with_names entries at.item) good in
    rw after (omega (arith, parts.1, parts.2))

pub returns-clause-ok : goal.returns-clause-ok
returns-clause-ok c =
    let lists = c.args.lists.now.items in
    let entries = c.args.entries in
    let at = c.requires.at.0 in
    let read = λ (k : Known). item_read (λ k. k.range) c.args.range lists c.args.place at k in
    let known = c.in_ok-known.ensures.ok ∙ sym (read c.index-2.result.now c.index-2.ensures) in
    let listed = ap (list_of c.args.range c.args.total) at.found ∙ c.requires.at.1 in
    let after : c.hear_each.new.known ≡ with_names entries at.item =
    c.in_ok-hear_each.ensures.ok ∙ ap (with_names entries) known in
    rw (listed, ← after) c.lengthen.ensures.ok
