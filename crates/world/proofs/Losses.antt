-- The cables that lose frames, marked loss by loss.
use Rattle.std.proofs.Common.{◌≡◌, ℕ, zero, suc, ◌+◌, ◌-◌, ◌<◌, ◌≤◌, Bool, true, false, ◌&&◌, ◌||◌, ◌==◌, cond, List, [], ◌∷◌, ◌++◌}
use Rattle.std.proofs.Common.{IsTrue, refl, sym, ap, ◌∙◌, subst, arith, eq-eqb, eqb-true, leb-true, length, nat_le}
use Rattle.std.proofs.Common.{replicate, slice_set, take, true≢false}
use Rattle.std.proofs.Math.ListN.{get_or}
use Rattle.std.specs.List.{list_all, list_any}
use Rattle.std.proofs.lemmas.Bool.{and_parts}
use Rattle.std.proofs.lemmas.List.Folds.{list_any_more}
use Rattle.std.proofs.lemmas.List.Sums.{AllPass-from_list_all}
use Rattle.internet_file.specs.declared.loss.Loss.{Loss}
use Rattle.live_cables.specs.Steps.{loses_by}
use Rattle.world.proofs.Stations.{length_set}
use Rattle.world.specs.Losing.{is_lossy, is_on, loses_in, marked}

set_same : (losing : List Bool) (k : ℕ) → k < length losing → loses_by (slice_set losing k true) k ≡ true
set_same [] k h = absurd (omega arith)
set_same (b ∷ bs) zero h = refl
set_same (b ∷ bs) (suc k) h = set_same bs k (omega arith)

set_other : (losing : List Bool) (k j : ℕ) → (j ≡ k → ⊥) → loses_by (slice_set losing k true) j ≡ loses_by losing j
set_other [] k j f = refl
set_other (b ∷ bs) zero zero f = absurd (f refl)
set_other (b ∷ bs) zero (suc j) f = refl
set_other (b ∷ bs) (suc k) zero f = refl
set_other (b ∷ bs) (suc k) (suc j) f = set_other bs k j (λ e. f (ap suc e))

or_no : (b : Bool) → b ≡ (b || false)
or_no true = refl
or_no false = refl

or_yes : (b : Bool) → true ≡ (b || true)
or_yes true = refl
or_yes false = refl

-- After one more loss was marked, its cable loses frames if the loss includes the tick.
pub marked_loses : (tick : ℕ) (l : Loss) (losing : List Bool) (cable : ℕ) → 1 ≤ l.cable → l.cable ≤ length losing
    → loses_by (marked tick l losing) cable ≡ (loses_by losing cable || ((l.cable == cable + 1) && is_on tick l))
marked_loses tick l losing cable low high = by (is_on tick l) (l.cable == cable + 1) refl
  where
    by : (on here : Bool) → (l.cable == cable + 1) ≡ here
        → loses_by (cond on (slice_set losing (l.cable - 1) true) losing) cable ≡ (loses_by losing cable || (here && on))
    by true true e =
        let is = eqb-true l.cable (cable + 1) e in
        let same : l.cable - 1 ≡ cable = omega (arith, is) in
        subst (λ k. loses_by (slice_set losing (l.cable - 1) true) k ≡ (loses_by losing k || true)) same
        (set_same losing (l.cable - 1) (omega (arith, low, high)) ∙ or_yes (loses_by losing (l.cable - 1)))
    by true false e =
        set_other losing (l.cable - 1) cable (λ same.
        true≢false (sym (eq-eqb l.cable (cable + 1) (omega (arith, same, low))) ∙ e))
        ∙ or_no (loses_by losing cable)
    by false true e = or_no (loses_by losing cable)
    by false false e = or_no (loses_by losing cable)

-- No cable loses frames if no loss includes the tick.
pub none_loses : (tick : ℕ) (losses : List Loss) (cable : ℕ) → list_any (is_on tick) losses ≡ false → false ≡ loses_in tick losses cable
none_loses tick [] cable h = refl
none_loses tick (l ∷ ls) cable h = by (is_on tick l) (l.cable == cable + 1) h (none_loses tick ls cable)
  where
    by : (on here : Bool) → (on || list_any (is_on tick) ls) ≡ false → (list_any (is_on tick) ls ≡ false → false ≡ loses_in tick ls cable)
        → false ≡ ((here && on) || loses_in tick ls cable)
    by true here g rest = absurd (true≢false g)
    by false true g rest = rest g
    by false false g rest = rest g

-- No cable loses frames if none was marked.
pub fresh_loses : (xs : List Bool) → xs ≡ [] → (n m cable : ℕ) → loses_by (take n xs ++ replicate m false) cable ≡ false
fresh_loses xs none n m cable = subst (λ l. loses_by (take n l ++ replicate m false) cable ≡ false) (sym none) (by n)
  where
    all : (m cable : ℕ) → loses_by (replicate m false) cable ≡ false
    all zero cable = refl
    all (suc m) zero = refl
    all (suc m) (suc cable) = all m cable

    by : (n : ℕ) → loses_by (take n [] ++ replicate m false) cable ≡ false
    by zero = all m cable
    by (suc n) = all m cable

module _ (tick : ℕ) (losses : List Loss) (k : ℕ) (d : Loss) (first before after : List Bool) (within : k < length losses)
    (all : IsTrue (list_all (is_lossy (length first)) losses)) (long : length before ≡ length first)
    (is : after ≡ marked tick (get_or losses k d) before) where
  -- The loss is of one of the cables.
  pub lossy_here : (1 ≤ (get_or losses k d).cable) × ((get_or losses k d).cable ≤ length before)
  lossy_here =
      let here = AllPass-from_list_all (is_lossy (length first)) losses all k d within in
      let parts = and_parts (nat_le 1 (get_or losses k d).cable) (nat_le (get_or losses k d).cable (length first)) here in
      let low = leb-true 1 (get_or losses k d).cable parts.0 in
      let high = leb-true (get_or losses k d).cable (length first) parts.1 in
      (low, omega (arith, high, long))

  pub marked_long : length after ≡ length first
  marked_long = ap length is ∙ (by (is_on tick (get_or losses k d)) ∙ long)
    where
      by : (b : Bool) → length (cond b (slice_set before ((get_or losses k d).cable - 1) true) before) ≡ length before
      by true = length_set before ((get_or losses k d).cable - 1) true
      by false = refl

  -- One more loss is marked.
  pub marked_more : ((cable : ℕ) → loses_by before cable ≡ (loses_by first cable || loses_in tick (take k losses) cable)) → (cable : ℕ)
      → loses_by after cable ≡ (loses_by first cable || loses_in tick (take (k + 1) losses) cable)
  marked_more so_far cable =
      let t : Loss → Bool = λ l. (l.cable == cable + 1) && is_on tick l in
      let l = get_or losses k d in
      ap (λ bs. loses_by bs cable) is
      ∙ (marked_loses tick l before cable lossy_here.0 lossy_here.1
      ∙ (ap (λ b. b || t l) (so_far cable)
      ∙ (or_assoc (loses_by first cable) (loses_in tick (take k losses) cable) (t l)
      ∙ ap (λ b. loses_by first cable || b) (sym (list_any_more t losses k d within)))))
    where
      or_assoc : (a b c : Bool) → ((a || b) || c) ≡ (a || (b || c))
      or_assoc true b c = refl
      or_assoc false b c = refl
