use Rattle.std.proofs.Common.{◌≡◌, None, inl, inr, sym, ap, ◌∙◌, arith}
use Rattle.std.specs.Option.{option_map}
use Rattle.std.proofs.lemmas.Bool.{cases_lt}
use Rattle.std.proofs.lemmas.List.{get_or_past}
use Rattle.slab.specs.Slab.{get}
use Rattle.atp.specs.Repeating.{stepped}
use Rattle.atp.proofs.Slots.{all_known}
use Rattle.atp.proofs.Steps.{stepped_id}
use Rattle.atp.proofs.table.step_all.Goals as goal

pub returns-clause-known : goal.returns-clause-known
returns-clause-known c =
    all_known (stepped c.args.step) (stepped_id c.args.step)
    c.args.table.now.slots c.loop-key.table.slots c.requires.apart c.loop-key.invariant.table.apart
    (λ k. elim (cases_lt k c.loop-key.key) [
      | inl lt ↦ c.loop-key.invariant.before k lt
      | inr le ↦
          let none : get c.args.table.now k
          ≡ None = get_or_past c.args.table.now.slots k None (omega (arith, c.loop-key.invariant.within, c.loop-key-test.false, le)) in
          c.loop-key.invariant.after k le ∙ none ∙ sym (ap (option_map (stepped c.args.step)) none)
    ])
