-- Rule C1, and its consequence: cables are in rising order.
use Rattle.std.proofs.Common.{◌≡◌, ℕ, zero, suc, ◌+◌, ◌<◌, inl, inr, true, false, List, Some, None, slice_get, add-one, arith, ap, sym}
use Rattle.std.proofs.Common.{◌∙◌, ◌&&◌, ◌||◌, ◌==◌, not, length, nat_le}
use Rattle.std.proofs.lemmas.Bool.{eqb-true, and_parts, or_parts, cases_order, false_from_ne_true}
use Rattle.at_base.specs.Range.{is_range}
use Rattle.at_base.specs.declared.error.Place.TheVariants as place
use Rattle.table_image.specs.Internet.{Internet}
use Rattle.audit.specs.Places.{on, index_of}
use Rattle.audit.specs.ZoneLists.{has_double, is_list_for}
use Rattle.table_image.specs.declared.cable.Cable.{Cable}
use Rattle.table_image.specs.declared.row.Row.{Row}
use Rattle.table_image.specs.declared.zone_list.ZoneList.{ZoneList}
use Rattle.audit.specs.Firsts.{FirstPlace}
use Rattle.audit.specs.Rules.{bad_cable, end_before, c1, is_for, cable_of}
use Rattle.audit.proofs.Finding.{first_index}
use Rattle.audit.proofs.WalkLists.{At, at_within, at_below}
use Rattle.audit.proofs.WalkFacts.{GoodCable, good_cable}

-- the end that a scan passes on from a cable
pub end_passed : (cables : List Cable) (k : ℕ) (c : Cable) → slice_get cables k ≡ Some c → c.end ≡ end_before cables (k + 1)
end_passed cables k c at = rw (add-one, at)

-- a cable is good if rule C1 is kept
pub good_at : (i : Internet) (k : ℕ) (c : Cable) → FirstPlace (c1 i) None → At i.cables k c → GoodCable (end_before i.cables k) c
good_at i k c kept at =
    good_cable (end_before i.cables k) c (ap (λ o. on o (bad_cable (end_before i.cables k))) (sym at) ∙ kept (place.Cable (suc k)))

-- if rule C1 is kept, a cable ends below the start of each later one
pub rising : (i : Internet) → FirstPlace (c1 i) None → (k j : ℕ) (a b : Cable) → slice_get i.cables j ≡ Some a
    → slice_get i.cables k ≡ Some b → j < k → a.end < b.start
rising i kept zero j a b at_j at_k lt = absurd (omega arith)
rising i kept (suc k) j a b at_j at_k lt =
    let within = at_within i.cables (suc k) b at_k in
    let before = at_below i.cables k (omega (arith, within)) in
    let after = (good_at i (suc k) b kept at_k).after in
    let last : end_before i.cables (suc k) ≡ before.0.end = rw before.1 in
    let up = (good_at i k before.0 kept before.1).up in
    elim (cases_order j k) as (λ _. a.end < b.start) [
      | inl same ↦
          let there : slice_get i.cables k ≡ Some a = ap (slice_get i.cables) (sym same) ∙ at_j in
          let is : a ≡ before.0 = cc in
          let ends : a.end ≡ before.0.end = ap (λ c. c.end) is in
          omega (arith, after, last, ends)
      | inr (inl lower) ↦ let h = rising i kept k j a before.0 at_j before.1 lower in omega (arith, h, up, after, last)
      | inr (inr above) ↦ absurd (omega arith)
    ]

-- if rule C1 is kept, at most one cable has a range
pub only_range : (i : Internet) (start end k : ℕ) (c : Cable) → FirstPlace (c1 i) None → slice_get i.cables k ≡ Some c
    → (start == c.start && end == c.end) ≡ true → Some k ≡ index_of (λ (c : Cable). start == c.start && end == c.end) i.cables
only_range i start end k c kept at for = sym (first_index (λ (c : Cable). start == c.start && end == c.end) i.cables k c at for before)
  where
    starts : (d : Cable) → (start == d.start && end == d.end) ≡ true → start ≡ d.start
    starts d t = eqb-true start d.start (and_parts _ _ t).0

    before : (j : ℕ) (d : Cable) → j < k → slice_get i.cables j ≡ Some d → (start == d.start && end == d.end) ≡ false
    before j d lt at_j =
        false_from_ne_true (start == d.start && end == d.end) (λ t.
        let apart = rising i kept k j d c at_j at lt in
        let up = (good_at i j d kept at_j).up in
        let mine = starts c for in
        let its = starts d t in
        omega (arith, apart, up, mine, its))

-- if rule C1 is kept, at most one cable is that of a row, and of a zone list
pub only_cable : (i : Internet) (row : Row) (k : ℕ) (c : Cable) → FirstPlace (c1 i) None → slice_get i.cables k ≡ Some c
    → is_for row c ≡ true → Some k ≡ cable_of i row
only_cable i row k c kept at for = only_range i row.start row.end k c kept at for

pub only_list_cable : (i : Internet) (l : ZoneList) (k : ℕ) (c : Cable) → FirstPlace (c1 i) None → slice_get i.cables k ≡ Some c
    → is_list_for l c ≡ true → Some k ≡ index_of (is_list_for l) i.cables
only_list_cable i l k c kept at for = only_range i l.start l.end k c kept at for

-- if rule C1 is kept, a cable has no zone twice
pub no_double : (i : Internet) (k : ℕ) (c : Cable) → FirstPlace (c1 i) None → slice_get i.cables k ≡ Some c → has_double c.zones ≡ false
no_double i k c kept at =
    let bad = ap (λ o. on o (bad_cable (end_before i.cables k))) (sym at) ∙ kept (place.Cable (suc k)) in
    (or_parts (not (is_range c.start c.end) || nat_le c.start (end_before i.cables k) || length c.zones == 0) (has_double c.zones) bad).1
