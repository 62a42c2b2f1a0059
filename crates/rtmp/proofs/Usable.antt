-- The usable row for a network, by the row for it.
use Rattle.std.proofs.Common.{◌≡◌, ℕ, ◌≤◌, Bool, true, false, cond, ◌&&◌, List, [], ◌∷◌, Some, None, refl, arith}
use Rattle.std.proofs.lemmas.Bool.{lt-leb}
use Rattle.at_base.specs.Range.{is_between}
use Rattle.at_base.specs.Spans.{AreApart, item_for}
use Rattle.at_base.proofs.Ranges.{when_between}
use Rattle.rtmp.specs.declared.row.Row.{Row}
use Rattle.rtmp.specs.Routes.{row_for}
use Rattle.rtmp.specs.States.{is_usable}

-- rows above a network aren't for it
none_above : (net low : ℕ) (rows : List Row) → AreApart (λ r. r.range) low rows → net ≤ low → item_for (λ r. r.range) net rows ≡ None
none_above net low [] h le = refl
none_above net low (a ∷ rows) h le =
    rw (lt-leb a.range.start net (omega (arith, h.0, le))) (none_above net a.range.end rows h.2 (omega (arith, h.0, h.1, le)))

-- where no row is for the network, no usable one is
pub usable_none : (net : ℕ) (rows : List Row) → item_for (λ r. r.range) net rows ≡ None → row_for net rows ≡ None
usable_none net [] none = refl
usable_none net (a ∷ rows) none = by (is_between a.range.start a.range.end net) (is_usable a.state) none (usable_none net rows)
  where
    by : (b u : Bool) → cond b (Some a) (item_for (λ r. r.range) net rows) ≡ None
        → (item_for (λ r. r.range) net rows ≡ None → row_for net rows ≡ None)
        → cond (u && b) (Some a) (row_for net rows) ≡ None
    by true u f rest = cc
    by false true f rest = rest f
    by false false f rest = rest f

-- the row for the network, if it is usable
pub usable_one : (net low : ℕ) (rows : List Row) (x : Row) → AreApart (λ r. r.range) low rows
    → item_for (λ r. r.range) net rows ≡ Some x → row_for net rows ≡ cond (is_usable x.state) (Some x) None
usable_one net low [] x h found = cc
usable_one net low (a ∷ rows) x h found =
    by (is_between a.range.start a.range.end net) refl found (usable_one net a.range.end rows x h.2)
  where
    usable : (u : Bool) → row_for net rows ≡ None → cond (u && true) (Some a) (row_for net rows) ≡ cond u (Some a) None
    usable true none = refl
    usable false none = none

    other : (u : Bool) → cond (u && false) (Some a) (row_for net rows) ≡ row_for net rows
    other true = refl
    other false = refl

    by : (b : Bool) → is_between a.range.start a.range.end net ≡ b → cond b (Some a) (item_for (λ r. r.range) net rows) ≡ Some x
        → (item_for (λ r. r.range) net rows ≡ Some x → row_for net rows ≡ cond (is_usable x.state) (Some x) None)
        → cond (is_usable a.state && b) (Some a) (row_for net rows) ≡ cond (is_usable x.state) (Some x) None
    by true t f rest =
        let same : a ≡ x = cc in
        let end = (when_between a.range.start a.range.end net t).1 in
        rw (← same) (usable (is_usable a.state) (usable_none net rows (none_above net a.range.end rows h.2 end)))
    by false t f rest = rw (other (is_usable a.state)) (rest f)
