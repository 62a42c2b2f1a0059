use Rattle.std.proofs.Common.{◌≡◌, ℕ, ◌+◌, ◌<◌, List, [], ◌∷◌, ◌++◌, length, get_or, take, filter_map, Option, Some, None, ap, sym, ◌∙◌}
use Rattle.std.proofs.Common.{append-nil}
use Rattle.std.specs.List.{cons_option}
use Rattle.std.proofs.lemmas.List.{take_more}
use Rattle.std.proofs.lemmas.List.Elements.{filter_map-append}
use Rattle.at_base.specs.Range.{Span}
use Rattle.zip_zones.specs.Indexing.{hit}
use Rattle.zip_zones.proofs.Nothing.{none_found}
use Rattle.zip_zones.proofs.table.hits.Goals as goal
use Rattle.zip_zones.proofs.table.hits.Goals.{in-Some+in_ok-push, in_default}

-- what one more number gives
next_is : (h : ℕ → Option Span) (numbers : List ℕ) (i : ℕ) (found : Option Span) → i < length numbers → h (get_or numbers i 0) ≡ found
    → filter_map h (take (i + 1) numbers) ≡ filter_map h (take i numbers) ++ cons_option found []
next_is h numbers i found lt e =
    ap (filter_map h) (take_more numbers i 0 lt) ∙ filter_map-append h (take i numbers) (get_or numbers i 0 ∷ [])
    ∙ ap (λ (o : Option Span). filter_map h (take i numbers) ++ cons_option o []) e

pub loop-number-preserved : goal.loop-number-preserved
loop-number-preserved c =
    let h = hit c.args.zone.now c.args.lists.now in
    let numbers = c.args.numbers.now in
    let i = c.loop-number.number-index in
    elim c.match-hit.branch [
      | in-Some+in_ok-push w ↦
          rw (w.ranges-is, w.in_ok-push.ensures.items, c.loop-number.invariant)
          (sym (next_is h numbers i (Some w.in-Some.range) c.loop-number-test.true (sym c.hit.ensures ∙ w.in-Some.is)))
      | in_default w ↦
          rw (w.ranges-is, c.loop-number.invariant)
          (sym (next_is h numbers i None c.loop-number-test.true (sym c.hit.ensures ∙ w.in_default.is) ∙ append-nil (filter_map h (take i numbers))))
    ]

pub returns-in_err-push-clause-none : goal.returns-in_err-push-clause-none
returns-in_err-push-clause-none c none =
    let h = hit c.args.zone.now c.args.lists.now in
    let found : h (get_or c.args.numbers.now c.loop-number.number-index 0) ≡ Some c.in-Some.range = sym c.hit.ensures ∙ c.in-Some.is in
    let nothing = none_found h c.args.numbers.now c.loop-number.number-index 0 none c.loop-number-test.true in
    let never = sym found ∙ nothing in
    cc
