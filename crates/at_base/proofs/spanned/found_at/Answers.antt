use Rattle.std.proofs.Common.{◌≡◌, Some, true, false, slice_get, ◌∙◌, sym, ap, refl}
use Rattle.std.proofs.lemmas.Option.{slice_get_read, slice_get_past}
use Rattle.at_base.specs.Range.{same_range}
use Rattle.at_base.proofs.Spans.{at_place, before_place}
use Rattle.at_base.proofs.spanned.found_at.Goals.{else-place-items-via-then-place-items+else-eq, else-place-items-via-else-place-items}
use Rattle.at_base.proofs.spanned.found_at.Goals as goal

pub returns-then-eq-clause-found : goal.returns-then-eq-clause-found
returns-then-eq-clause-found g c =
    let span = g.T.Spanned.span in
    let at = c.requires.place in
    let there = slice_get_read c.args.items.now _ _ _ refl c.if-place-items.true c.index-items-place.is in
    let same : same_range (span c.index-items-place.result) c.args.range ≡ true =
    ap (λ s. same_range s c.args.range) (sym c.range.ensures) ∙ sym c.eq.ensures ∙ c.if-eq.true in
    rw at (at_place span c.args.range c.args.items.now c.index-items-place.result (rw (← at) there) same)

pub returns-else-place-items-clause-missing : goal.returns-else-place-items-clause-missing
returns-else-place-items-clause-missing g c =
    let span = g.T.Spanned.span in
    let at = c.requires.place in
    let other : (x : g.row.T.Denot) → slice_get c.args.items.now c.args.place ≡ Some x → same_range (span x) c.args.range ≡ false =
    λ x e. elim c.else-place-items.branch [
      | else-place-items-via-then-place-items+else-eq w ↦
          let there = slice_get_read c.args.items.now _ _ _ refl w.if-place-items.true w.index-items-place.is in
          let one : x ≡ w.index-items-place.result = cc in
          let same : same_range (span w.index-items-place.result) c.args.range ≡ false =
          ap (λ s. same_range s c.args.range) (sym w.range.ensures) ∙ sym w.eq.ensures ∙ w.if-eq.false in
          rw one same
      | else-place-items-via-else-place-items w ↦
          let past = slice_get_past c.args.items.now c.args.place w.if-place-items.false in
          cc
    ] in
    rw at (before_place span c.args.range 0 c.args.items.now c.requires.map (rw (← at) other))
