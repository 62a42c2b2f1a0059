use mathlib.Core.List.{reverse, reverse-reverse}
use Rattle.std.proofs.Common.{rules, ◌≡◌, ◌∙◌, subst, sym, ap, refl, length}
use Rattle.std.specs.Prelude.{IsPermutation, IfOk}
use Rattle.std.specs.List.{range_with_len}
use Rattle.std.specs.List.Sorted.{IsNonDecreasingBy}
use Rattle.std.proofs.lemmas.List.Sorted.{IsNonDecreasingBy-from_sort_by_key}
use native.Mathlib.Omega.{arith}
use Rattle.std.proofs.lemmas.Iterator.{YieldsList-from_range, items_from_collect}
use Rattle.world.specs.Scheduling.{turn_of as turn_in}
use Rattle.world.proofs.scheduling.schedule_of.Goals as goal

pub returns-clause-all : goal.returns-clause-all
returns-clause-all c =
    let sorted = c.sort_unstable_by_key.new.self.items in
    let back : sorted ≡ reverse c.reverse.new.self.items = sym (ap reverse c.reverse.ensures.items ∙ reverse-reverse sorted) in
    let rises = IsNonDecreasingBy-from_sort_by_key (turn_in c.args.actions.now) _ c.sort_unstable_by_key.ensures.sorted
    (λ a r q k. search rules) in
    let gathered =
    items_from_collect c.collect.result c.collect.ensures.ran (YieldsList-from_range 0 c.in-Ok.len c.in-Ok.len refl (omega arith)) in
    let here = subst (λ r. IfOk r (λ w. w.items ≡ range_with_len 0 c.in-Ok.len)) c.in_ok-indices.was gathered in
    let many : c.in-Ok.len ≡ length c.args.actions.now = search rules in
    record {
      all = subst (IsPermutation _) back (subst (λ n. IsPermutation (range_with_len 0 n) sorted) many
          (subst (λ xs. IsPermutation xs sorted) here c.sort_unstable_by_key.ensures.permutation));
      rises = subst (IsNonDecreasingBy (turn_in c.args.actions.now)) back rises;
    }
