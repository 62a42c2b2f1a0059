use Rattle.std.proofs.Common.{◌≡◌, ◌∙◌, ap, sym, arith, get_or, length}
use Rattle.std.specs.Prelude.{vec_len}
use Rattle.std.proofs.lemmas.List.{get_or_default}
use Rattle.at_base.specs.Numbers.{below}
use Rattle.at_base.proofs.Numbers.{remove_at, not_there}
use Rattle.at_base.proofs.index.take_number.Goals.{else-place-len-via-then-place-len+else-index-number, else-place-len-via-else-place-len}
use Rattle.at_base.proofs.index.take_number.Goals as goal

pub returns-then-index-number-clause-kept : goal.returns-then-index-number-clause-kept
returns-then-index-number-clause-kept c =
    let at : c.place_of-place.result ≡ below c.args.number c.args.numbers.now.items =
    c.place_of-place.ensures.place ∙ ap (below c.args.number) c.as_slice.ensures.value in
    let len : vec_len c.args.numbers.now ≡ length c.args.numbers.now.items =
    sym c.as_slice.ensures.len ∙ ap length c.as_slice.ensures.value in
    let is : get_or c.args.numbers.now.items (below c.args.number c.args.numbers.now.items) c.index.result.now ≡ c.args.number =
    (rw at at (sym c.index.ensures)) ∙ c.if-index-number.true in
    (rw at at c.remove.ensures.items)
    ∙ remove_at c.args.number c.index.result.now c.args.numbers.now.items (rw (at, c.len.ensures, len) at c.if-place-len.true) is

pub returns-else-place-len-clause-kept : goal.returns-else-place-len-clause-kept
returns-else-place-len-clause-kept c =
    let at : c.place_of-place.result ≡ below c.args.number c.args.numbers.now.items =
    c.place_of-place.ensures.place ∙ ap (below c.args.number) c.as_slice.ensures.value in
    let len : vec_len c.args.numbers.now ≡ length c.args.numbers.now.items =
    sym c.as_slice.ensures.len ∙ ap length c.as_slice.ensures.value in
    sym (not_there c.args.number 0 c.args.numbers.now.items c.requires (λ d l i. elim c.else-place-len.branch [
      | else-place-len-via-then-place-len+else-index-number w ↦ w.if-index-number.false
          ((rw at at w.index.ensures)
          ∙ get_or_default c.args.numbers.now.items (below c.args.number c.args.numbers.now.items) w.index.result.now d l ∙ i)
      | else-place-len-via-else-place-len w ↦ absurd (omega (arith, l, rw (at, c.len.ensures, len) at w.if-place-len.false))
    ]))
