-- Where there is nothing to return: no number is a hit, and no list has a name.
use Rattle.std.proofs.Common.{◌≡◌, ◌<◌, ℕ, zero, suc, Bool, true, false, List, [], ◌∷◌, ◌++◌, length, fold, filter_map, Option, Some, None, refl}
use Rattle.std.proofs.Common.{arith, if◌then◌else◌, slice_index_or}
use Rattle.std.specs.List.{cons_option, list_any}
use Rattle.at_base.specs.Text.{same_name}
use Rattle.zip_zones.specs.Zones.{Known, is_complete, with_list, with_name}

-- ---- hits

none_first : {B : Type 0} (o : Option B) (found : List B) → cons_option o found ≡ [] → (o ≡ None) × (found ≡ [])
none_first None found e = (refl, e)
none_first (Some x) found e = absurd cc

-- if nothing is found, no element gives anything
pub none_found : {A B : Type 0} (h : A → Option B) (items : List A) (i : ℕ) (d : A) → filter_map h items ≡ [] → i < length items
    → h (slice_index_or items i d) ≡ None
none_found h [] i d e lt = absurd (omega (arith, lt))
none_found h (a ∷ items) zero d e lt = (none_first (h a) (filter_map h items) e).0
none_found h (a ∷ items) (suc i) d e lt = none_found h items i d (none_first (h a) (filter_map h items) e).1 (omega (arith, lt))

-- ---- names

some_with : (names : List (List ℕ)) (name : List ℕ) → with_name names name ≡ [] → ⊥
some_with [] name e = cc
some_with (n ∷ names) name e = by (list_any (same_name name) (n ∷ names)) e
  where
    by : (b : Bool) → (if b then n ∷ names else (n ∷ names) ++ name ∷ []) ≡ [] → ⊥
    by true e = cc
    by false e = cc

none_folded : (names more : List (List ℕ)) → fold with_name names more ≡ [] → (names ≡ []) × (more ≡ [])
none_folded names [] e = (e, refl)
none_folded names (m ∷ more) e = absurd (some_with names m (none_folded (with_name names m) more e).0)

none_listed : (names : List (List ℕ)) (k : Known) → with_list names k ≡ [] → (names ≡ []) × (is_complete k ≡ true → k.names ≡ [])
none_listed names k e = by (is_complete k) e
  where
    by : (b : Bool) → (if b then fold with_name names k.names else names) ≡ [] → (names ≡ []) × (b ≡ true → k.names ≡ [])
    by true e = let none = none_folded names k.names e in (none.0, λ t. none.1)
    by false e = (e, λ t. absurd cc)

none_before : (names : List (List ℕ)) (table : List Known) → fold with_list names table ≡ [] → names ≡ []
none_before names [] e = e
none_before names (k ∷ table) e = (none_listed names k (none_before (with_list names k) table e)).0

-- if complete lists have no zones, none of them has a name
pub none_complete : (names : List (List ℕ)) (table : List Known) (i : ℕ) (d : Known) → fold with_list names table ≡ [] → i < length table
    → is_complete (slice_index_or table i d) ≡ true → (slice_index_or table i d).names ≡ []
none_complete names [] i d e lt t = absurd (omega (arith, lt))
none_complete names (k ∷ table) zero d e lt t = (none_listed names k (none_before (with_list names k) table e)).1 t
none_complete names (k ∷ table) (suc i) d e lt t = none_complete (with_list names k) table i d e (omega (arith, lt)) t
