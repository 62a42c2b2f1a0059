-- Elements of a list by index.
use Rattle.std.specs.Prelude.{ℕ, zero, suc, Bool, false, cond, List, [], ◌∷◌, Option, Some, None, option_map}

-- the test of the element, or false if there is none
abbrev pub on : {X : Type 0} → Option X → (X → Bool) → Bool
on None test = false
on (Some x) test = test x

-- the first index, from 0, of an element that passes the test
abbrev pub index_of : {X : Type 0} → (X → Bool) → List X → Option ℕ
index_of test [] = None
index_of test (x ∷ xs) = cond (test x) (Some zero) (option_map suc (index_of test xs))
