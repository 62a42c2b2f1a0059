use Rattle.std.proofs.Common.{rules, ◌≡◌, ◌∙◌, false, sym, true}
use Rattle.std.specs.List.{list_any}
use Rattle.nbp.proofs.Answering.{none_asked_for, some_asked_for}
use Rattle.nbp.specs.Registered.{is_asked_for}
use Rattle.nbp.proofs.names.answers_of.Goals as goal

pub returns-then-not-is_any_asked_for-clause-ok : goal.returns-then-not-is_any_asked_for-clause-ok
returns-then-not-is_any_asked_for-clause-ok c =
    let none : list_any (is_asked_for c.args.object.now c.args.kind.now) c.args.names.now ≡ false = search rules in
    c.new.ensures.items ∙ sym (none_asked_for c.args.object.now c.args.kind.now c.args.names.now none)

pub returns-in_err-tuples-clause-none : goal.returns-in_err-tuples-clause-none
returns-in_err-tuples-clause-none c = λ none.
    let some : list_any (is_asked_for c.args.object.now c.args.kind.now) c.args.names.now ≡ true = search rules in
    absurd (some_asked_for c.args.object.now c.args.kind.now c.args.names.now some none)
