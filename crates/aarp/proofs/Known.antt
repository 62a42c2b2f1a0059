-- The mappings that are known: the effect of `put` and `peek` of `lru`, in terms of this crate's definitions.
use Rattle.std.proofs.Common.{◌≡◌, ℕ, zero, suc, ◌+◌, ◌<◌, ◌≤◌, ◌-◌, Bool, true, false, cond, not, List, [], ◌∷◌, filter, length, take, Option}
use Rattle.std.proofs.Common.{Some, None, refl, sym, ap, subst, ◌∙◌, arith}
use Rattle.std.specs.List.{IsDistinct, AllByRecursion}
use Rattle.std.specs.Option.{option_map_or}
use Rattle.std.specs.Map.{keys_of, lookup, lookup_entry, remove_entry}
use Rattle.std.proofs.lemmas.List.{take_all}
use Rattle.std.proofs.lemmas.Map.Keys.{IsDistinct-head, IsDistinct-tail}
use Rattle.at_base.proofs.Cases.{by_test}
use Rattle.lru.specs.LruCache.{LruCache, put_entries}
use Rattle.at_base.specs.declared.address.Addr.{Addr}
use Rattle.at_base.specs.declared.address.Hw.{Hw}
use Rattle.at_base.specs.Address.{same_address}
use Rattle.aarp.specs.Mapping.{forgotten, mapping_of}

cut : {X : Type 0} (x : X) (xs : List X) (n : ℕ) → 0 < n → x ∷ take (n - 1) xs ≡ take n (x ∷ xs)
cut x xs zero h = absurd (omega arith)
cut x xs (suc n) h = let e : suc n - 1 ≡ n = omega arith in rw e refl

module _ {K V : Type 0} (eq : K → K → Bool) (same : (x y : K) → eq x y ≡ true → x ≡ y) where
  abbrev others : K → List (K × V) → List (K × V)
  others k es = filter (λ e. not (eq k e.0)) es

  others-absent : (k : K) (es : List (K × V)) → lookup_entry (eq k) es ≡ None → others k es ≡ es
  others-absent k [] h = refl
  others-absent k (e ∷ es) h = by_test (eq k e.0)
      (λ t. let bad = rw t at h in cc)
      (λ t. rw t (ap (λ l. e ∷ l) (others-absent k es (rw t at h))))

  others-apart : (k : K) (es : List (K × V)) → AllByRecursion (λ y. eq k y ≡ false) (keys_of es) → others k es ≡ es
  others-apart k [] h = refl
  others-apart k (e ∷ es) h = rw h.0 (ap (λ l. e ∷ l) (others-apart k es h.1))

  others-present : (k : K) (f : K × V) (es : List (K × V)) → IsDistinct eq (keys_of es) → lookup_entry (eq k) es ≡ Some f → (f.0
      ≡ k) × (remove_entry (eq k) es ≡ others k es) × (suc (length (remove_entry (eq k) es)) ≡ length es)
  others-present k f [] d h = cc
  others-present k f (e ∷ es) d h = by_test (eq k e.0)
      (λ t.
      let is : k ≡ e.0 = same k e.0 t in
      let found : e ≡ f = let h' = rw t at h in cc in
      let apart : AllByRecursion (λ y. eq k y ≡ false) (keys_of es) = subst (λ j. AllByRecursion (λ y. eq j y
      ≡ false) (keys_of es)) (sym is) (IsDistinct-head eq e.0 (keys_of es) d) in
      (sym (is ∙ ap (λ p. p.0) found), rw t (sym (others-apart k es apart)), rw t refl))
      (λ t.
      let on = others-present k f es (IsDistinct-tail eq e.0 (keys_of es) d) (rw t at h) in
      (on.0, rw t (ap (λ l. e ∷ l) on.1), rw t (ap suc on.2)))

  removed-absent : (k : K) (es : List (K × V)) → lookup_entry (eq k) es ≡ None → remove_entry (eq k) es ≡ es
  removed-absent k [] h = refl
  removed-absent k (e ∷ es) h = by_test (eq k e.0)
      (λ t. let bad = rw t at h in cc)
      (λ t. rw t (ap (λ l. e ∷ l) (removed-absent k es (rw t at h))))

  -- the entries after `pop`, as a filter
  pub removed-forgotten : (k : K) (es : List (K × V)) → IsDistinct eq (keys_of es) → remove_entry (eq k) es
      ≡ filter (λ e. not (eq k e.0)) es
  removed-forgotten k es d = by (lookup_entry (eq k) es) refl
    where
      by : (o : Option (K × V)) → lookup_entry (eq k) es ≡ o → remove_entry (eq k) es ≡ others k es
      by None h = removed-absent k es h ∙ sym (others-absent k es h)
      by (Some f) h = (others-present k f es d h).1

  module _ (c : LruCache K V) (k : K) (v : V) (d : IsDistinct eq (keys_of c.entries)) (fits : length c.entries ≤ c.cap) (some : 0 <
      c.cap) where
    by_case : (o : Option (K × V)) → lookup_entry (eq k) c.entries ≡ o
        → option_map_or (λ e. (e.0, v) ∷ remove_entry (eq k) c.entries) o ((k, v) ∷ take (c.cap - 1) c.entries)
        ≡ take c.cap ((k, v) ∷ others k c.entries)
    by_case None h = rw (others-absent k c.entries h) (cut (k, v) c.entries c.cap some)
    by_case (Some f) h =
        let p = others-present k f c.entries d h in
        let whole : take c.cap ((k, v) ∷ others k c.entries)
        ≡ (k, v) ∷ others k c.entries = take_all c.cap ((k, v) ∷ others k c.entries) (rw (← p.1) (omega (arith, p.2))) in
        rw (whole, p.1, p.0) refl

    -- the entries after `put`, as a filter and a cut
    pub put_entries-learnt : put_entries eq c k v ≡ take c.cap ((k, v) ∷ filter (λ e. not (eq k e.0)) c.entries)
    put_entries-learnt = by_case (lookup_entry (eq k) c.entries) refl

pub same_is : (x y : Addr) → same_address x y ≡ true → x ≡ y
same_is x y h = grind arith

pub mapping_found : (a : Addr) (known : List (Addr × Hw)) → mapping_of a known ≡ lookup (same_address a) known
mapping_found a [] = refl
mapping_found a (m ∷ known) = elim (same_address a m.0) as (λ t. cond t (Some m.1) (mapping_of a known)
    ≡ cond t (Some m.1) (lookup (same_address a) known)) [
      | true ↦ refl
      | false ↦ mapping_found a known
    ]

-- an address that was forgotten isn't known
pub forgotten_unknown : (a : Addr) (known : List (Addr × Hw)) → mapping_of a (forgotten a known) ≡ None
forgotten_unknown a [] = refl
forgotten_unknown a (m ∷ known) = (elim (same_address a m.0) as (λ t. same_address a m.0 ≡ t
    → mapping_of a (cond (not t) (m ∷ forgotten a known) (forgotten a known)) ≡ None) [
      | true ↦ λ e. forgotten_unknown a known
      | false ↦ λ e. rw e (forgotten_unknown a known)
    ]) refl

-- nothing is left out with the mapping of an address that isn't known
pub unknown_apart : (a : Addr) (known : List (Addr × Hw)) → mapping_of a known ≡ None → forgotten a known ≡ known
unknown_apart a [] h = refl
unknown_apart a (m ∷ known) h = by_test (same_address a m.0)
    (λ e. let bad = rw e at h in cc)
    (λ e. rw e (ap (λ l. m ∷ l) (unknown_apart a known (rw e at h))))

-- what was cut twice
pub cut_again : {X : Type 0} (m n : ℕ) (xs : List X) → m ≤ n → take m (take n xs) ≡ take m xs
cut_again zero n xs h = refl
cut_again (suc m) zero xs h = absurd (omega arith)
cut_again (suc m) (suc n) [] h = refl
cut_again (suc m) (suc n) (x ∷ xs) h = ap (λ l. x ∷ l) (cut_again m n xs (omega arith))

-- one of n + 1 elements is left out, or none of fewer
pub above_cut : {X : Type 0} (n : ℕ) (xs : List X) → n < length xs → length xs ≤ n + 1 → take (length xs - 1) xs ≡ take n xs
above_cut n xs h few = let is : length xs - 1 ≡ n = omega (arith, h, few) in rw is refl
