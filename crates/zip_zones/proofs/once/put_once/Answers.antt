use Rattle.std.proofs.Common.{◌≡◌, true, false, length, sym, ◌∙◌, refl, arith}
use Rattle.std.specs.List.{list_any}
use Rattle.at_base.specs.Text.{same_name}
use Rattle.at_base.proofs.Numbers.{rises}
use Rattle.zip_zones.specs.Indexing.{numbers_from}
use Rattle.zip_zones.proofs.Indexed.{one_more}
use Rattle.zip_zones.proofs.Having.{alone_has}
use Rattle.zip_zones.proofs.once.put_once.Goals as goal

pub has-requires : goal.has-requires
has-requires c = rw (c.as_slice.ensures.value, c.requires.indexed) (rises (numbers_from 0 0 c.args.kept.now.items))

pub returns-then-has-clause-ok : goal.returns-then-has-clause-ok
returns-then-has-clause-ok c =
    let name = c.args.name.now in
    let kept = c.args.kept.now.items in
    let found = rw (c.as_slice.ensures.value, c.as_slice-2.ensures.value, c.requires.indexed) at c.has.ensures in
    let has : list_any (same_name name) kept ≡ true =
    sym (alone_has name 0 kept (omega arith) (omega (arith, c.requires.few))) ∙ sym found ∙ c.if-has.true in
    (rw has refl, c.requires.indexed)

pub put_name-requires-clause-rising : goal.put_name-requires-clause-rising
put_name-requires-clause-rising c = rw (c.reserve.ensures.items, c.requires.indexed) (rises (numbers_from 0 0 c.args.kept.now.items))

pub returns-clause-ok : goal.returns-clause-ok
returns-clause-ok c =
    let name = c.args.name.now in
    let kept = c.args.kept.now.items in
    let found = rw (c.as_slice.ensures.value, c.as_slice-2.ensures.value, c.requires.indexed) at c.has.ensures in
    let none : list_any (same_name name) kept ≡ false =
    sym (alone_has name 0 kept (omega arith) (omega (arith, c.requires.few))) ∙ sym found ∙ c.if-has.false in
    let nth : c.len.result ≡ length kept = c.len.ensures ∙ c.args.kept.now.ok.0 in
    let numbers = rw (c.reserve.ensures.items, c.requires.indexed, nth) at c.put_name.ensures.put in
    (c.in_ok-push.ensures.items ∙ rw none refl, numbers ∙ rw (c.in_ok-push.ensures.items) (sym (one_more 0 kept name)))
