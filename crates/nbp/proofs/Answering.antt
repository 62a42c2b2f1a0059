-- The answers to a lookup, and whether there are any.
use Rattle.std.proofs.Common.{◌≡◌, ℕ, Bool, true, false, ◌||◌, cond, List, [], ◌∷◌, map, refl}
use Rattle.std.specs.List.{filter, list_any}
use Rattle.nbp.specs.declared.names.Named.{Named}
use Rattle.nbp.specs.Registered.{answers, is_asked_for, tuple_of}

-- if no name is asked for, there are no answers
pub none_asked_for : (object kind : List ℕ) (names : List Named) → list_any (is_asked_for object kind) names ≡ false
    → answers object kind names ≡ []
none_asked_for object kind [] e = refl
none_asked_for object kind (n ∷ names) e = by (is_asked_for object kind n) (none_asked_for object kind names) e
  where
    by : (b : Bool) → (list_any (is_asked_for object kind) names ≡ false → answers object kind names ≡ [])
        → (b || list_any (is_asked_for object kind) names) ≡ false
        → map tuple_of (cond b (n ∷ filter (is_asked_for object kind) names) (filter (is_asked_for object kind) names)) ≡ []
    by true others x = cc
    by false others x = others x

-- if a name is asked for, there is an answer
pub some_asked_for : (object kind : List ℕ) (names : List Named) → list_any (is_asked_for object kind) names ≡ true
    → answers object kind names ≡ [] → ⊥
some_asked_for object kind [] e none = cc
some_asked_for object kind (n ∷ names) e none = by (is_asked_for object kind n) (some_asked_for object kind names) e none
  where
    by : (b : Bool) → (list_any (is_asked_for object kind) names ≡ true → answers object kind names ≡ [] → ⊥)
        → (b || list_any (is_asked_for object kind) names) ≡ true
        → map tuple_of (cond b (n ∷ filter (is_asked_for object kind) names) (filter (is_asked_for object kind) names)) ≡ [] → ⊥
    by true others x y = cc
    by false others x y = others x y
