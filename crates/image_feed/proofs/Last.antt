-- The last part of a list.
use Rattle.std.proofs.Common.{◌≡◌, suc, ◌-◌, ◌<◌, List, [], ◌∷◌, length, Option, Some, get_or, sym, ap, arith}
use Rattle.image_feed.specs.Growing.{like_of}

pub last_is : {A : Type 0} (x : A) (items : List A) (hint : Option A) → 0 < length items → x ≡ get_or items (length items - 1) x
    → like_of items hint ≡ Some x
last_is x [] hint some e = absurd (omega (arith, some))
last_is x (a ∷ []) hint some e = ap (λ y. Some y) (sym e)
last_is x (a ∷ b ∷ items) hint some e =
    let place : length (a ∷ b ∷ items) - 1 ≡ suc (length (b ∷ items) - 1) = omega arith in
    last_is x (b ∷ items) hint (omega arith) (rw place at e)
