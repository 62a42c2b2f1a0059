use Rattle.std.proofs.Common.{sym, ap, ◌∙◌, eqb-true, eq-eqb, length}
use Rattle.at_base.proofs.Texts.{same_in_place, same_lengths, test_is}
use Rattle.at_base.proofs.name.Name.same.Goals as goal

pub returns-then-self-other-clause-equal : goal.returns-then-self-other-clause-equal
returns-then-self-other-clause-equal c =
    let a = c.self.inside in
    let b = c.other.inside in
    let is = same_in_place a.len b.len a.bytes b.bytes c.args.self.now c.args.other.now c.self.view_is c.other.view_is c.if-self-other.true
    c.self.invariant.2 c.other.invariant.2 in
    let first = c.make_ascii_lowercase.ensures.after in
    let second = c.make_ascii_lowercase-2.ensures.after in (
      (λ t. is.0 (sym first ∙ (c.are_equal.ensures.0 t ∙ second))),
      (λ same. c.are_equal.ensures.1 (first ∙ (is.1 same ∙ sym second))),
    )

pub returns-then-self-other-clause-test : goal.returns-then-self-other-clause-test
returns-then-self-other-clause-test c =
    let a = c.self.inside in
    let b = c.other.inside in
    let is = same_in_place a.len b.len a.bytes b.bytes c.args.self.now c.args.other.now c.self.view_is c.other.view_is c.if-self-other.true
    c.self.invariant.2 c.other.invariant.2 in
    let first = c.make_ascii_lowercase.ensures.after in
    let second = c.make_ascii_lowercase-2.ensures.after in
    test_is c.are_equal.result c.args.self.now c.args.other.now (
      (λ t. is.0 (sym first ∙ (c.are_equal.ensures.0 t ∙ second))),
      (λ same. c.are_equal.ensures.1 (first ∙ (is.1 same ∙ sym second))),
    )

pub returns-else-self-other-clause-test : goal.returns-else-self-other-clause-test
returns-else-self-other-clause-test c =
    let a = c.self.inside in
    let b = c.other.inside in
    test_is _ c.args.self.now c.args.other.now (
      (λ t. absurd (c.if-self-other.false (eqb-true a.len b.len t))),
      (λ same.
          let long = c.self.invariant.1 ∙ ap length c.self.view_is in
          let other = c.other.invariant.1 ∙ ap length c.other.view_is in
          eq-eqb a.len b.len (long ∙ (same_lengths c.args.self.now c.args.other.now same ∙ sym other))),
    )
