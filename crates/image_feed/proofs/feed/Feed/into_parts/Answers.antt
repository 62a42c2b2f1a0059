use Rattle.std.proofs.Common.{◌≡◌, ◌∙◌, Err, true, false, sym, ap}
use Rattle.at_base.specs.declared.error.Error.{Error}
use Rattle.image_feed.specs.Tables.{is_whole}
use Rattle.image_feed.proofs.Fed.{short_first, short_none, short_refused, whole_flawless, whole_only, whole_spells}
use Rattle.image_feed.proofs.feed.Feed.into_parts.Goals as goal

pub returns-then-not-is_whole-clause-only : goal.returns-then-not-is_whole-clause-only
returns-then-not-is_whole-clause-only c = λ none all h i s.
    (let less : is_whole c.self.inside.tables ≡ false = sym c.is_whole.ensures ∙ c.if-not-is_whole.true in
    absurd (short_none _ all c.in_default.is (rw (← c.self.view_is) at h) i less s))

pub returns-then-not-is_whole-clause-first : goal.returns-then-not-is_whole-clause-first
returns-then-not-is_whole-clause-first c = λ none all h f first.
    (let less : is_whole c.self.inside.tables ≡ false = sym c.is_whole.ensures ∙ c.if-not-is_whole.true in
    ap (λ (e : Error). Err e)
    (short_first _ all c.in_default.is (rw (← c.self.view_is) at h) c.cut_after.result f less c.cut_after.ensures first))

pub returns-then-not-is_whole-clause-refused : goal.returns-then-not-is_whole-clause-refused
returns-then-not-is_whole-clause-refused c = λ none all h.
    (let less : is_whole c.self.inside.tables ≡ false = sym c.is_whole.ensures ∙ c.if-not-is_whole.true in
    short_refused _ all c.in_default.is (rw (← c.self.view_is) at h) c.cut_after.result less c.cut_after.ensures)

pub returns-clause-value : goal.returns-clause-value
returns-clause-value c =
    let whole : is_whole c.self.inside.tables ≡ true = sym c.is_whole.ensures ∙ c.if-not-is_whole.false in
    rw c.into_parts.ensures (whole_spells _ c.self.invariant.0.0 c.in_default.is c.self.invariant.0.1 whole).0

pub returns-clause-found : goal.returns-clause-found
returns-clause-found c = λ all h.
    (let whole : is_whole c.self.inside.tables ≡ true = sym c.is_whole.ensures ∙ c.if-not-is_whole.false in
    rw c.into_parts.ensures (whole_spells _ all c.in_default.is (rw (← c.self.view_is) at h) whole))

pub returns-clause-only : goal.returns-clause-only
returns-clause-only c = λ none all h i s.
    (let whole : is_whole c.self.inside.tables ≡ true = sym c.is_whole.ensures ∙ c.if-not-is_whole.false in
    c.into_parts.ensures ∙ whole_only _ all c.in_default.is (rw (← c.self.view_is) at h) i whole s)

pub returns-clause-first : goal.returns-clause-first
returns-clause-first c = λ none all h f first.
    (let whole : is_whole c.self.inside.tables ≡ true = sym c.is_whole.ensures ∙ c.if-not-is_whole.false in
    absurd (whole_flawless _ all c.in_default.is (rw (← c.self.view_is) at h) f whole first))
