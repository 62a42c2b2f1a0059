use Rattle.std.proofs.Common.{ℕ, ◌+◌, List, ◌++◌, drop, ap, sym, ◌∙◌}
use Rattle.cable_model.proofs.Indexed.{indices_all, indices_kept, indices_passed}
use Rattle.cable_model.specs.Places.{has_key, indices}
use Rattle.cable_model.proofs.seats.indices_by.Goals as goal
use Rattle.cable_model.proofs.seats.indices_by.Goals.{then-has+in_ok-push, else-has}

pub loop-index-init : goal.loop-index-init
loop-index-init c = ap (λ (l : List ℕ). l ++ indices (has_key c.args.key) 0 c.args.seats.now) c.new-items.ensures.items

pub loop-index-preserved : goal.loop-index-preserved
loop-index-preserved c =
    let test = has_key c.args.key in
    let ss = c.args.seats.now in
    let n = c.loop-index.index in
    let before = c.loop-index.items.items in
    let is = c.loop-index.invariant in
    let less = c.loop-index-test.true in
    let more : List ℕ = indices test (n + 1) (drop (n + 1) ss) in elim c.if-has.branch [
      | then-has+in_ok-push w ↦
          ap (λ v. v.items ++ more) w.items-is ∙ (ap (λ (l : List ℕ). l ++ more) w.in_ok-push.ensures.items
          ∙ indices_kept test n ss _ before _ less (sym c.has.ensures ∙ w.if-has.true) is)
      | else-has w ↦
          ap (λ v. v.items ++ more) w.items-is ∙ indices_passed test n ss _ before _ less (sym c.has.ensures ∙ w.if-has.false) is
    ]

pub returns-clause-ok : goal.returns-clause-ok
returns-clause-ok c =
    indices_all (has_key c.args.key) c.loop-index.index c.args.seats.now c.loop-index.items.items _ c.loop-index-test.false
    c.loop-index.invariant
