-- If each element of a list passes a test, all of them do.
use Rattle.std.proofs.Common.{◌≡◌, suc, Bool, true, ◌&&◌, List, [], ◌∷◌, refl, ap, ◌∙◌}
use Rattle.std.specs.List.{list_all}
use Rattle.table_image.specs.Bounds.{Every}

pub all_when : {X : Type 0} (test : X → Bool) (xs : List X) → Every (λ x. test x ≡ true) xs → list_all test xs ≡ true
all_when test [] each = refl
all_when test (x ∷ xs) each = ap (λ b. b && list_all test xs) (each 0 x refl) ∙ all_when test xs (λ k y at. each (suc k) y at)
