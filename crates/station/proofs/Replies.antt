-- The replies that a station makes, one after another.
use Rattle.std.proofs.Common.{◌≡◌, ℕ, ◌≤◌, ◌-◌, List, [], ◌∷◌, ◌++◌, Option, Some, None, ap, arith, drop, is_some}
use Rattle.std.proofs.Common.{length, map, refl, slice_index_or, sym, take, true, ◌∙◌}
use Rattle.std.proofs.lemmas.List.{take_rest}
use Rattle.station.specs.Ways.{replying}
use Rattle.station.specs.declared.way.Way.{Way}

-- the first reply, and the replies after it
pub replying_one_more : (way : Option Way) (payload : List ℕ) (payloads : List (List ℕ))
    → replying way (payload ∷ []) ++ replying way payloads ≡ replying way (payload ∷ payloads)
replying_one_more None payload payloads = refl
replying_one_more (Some way) payload payloads = refl

-- where there is a way and nothing is sent, there is nothing to send
pub nothing_to_send : {A : Type 0} (bytes : A → List ℕ) (way : Option Way) (packets : List A) → is_some way ≡ true
    → replying way (map bytes packets) ≡ [] → packets ≡ []
nothing_to_send bytes None packets some none = absurd cc
nothing_to_send bytes (Some way) [] some none = refl
nothing_to_send bytes (Some way) (p ∷ packets) some none = absurd cc

-- a list is its first element and the others
pub first_and_others : (xs : List (List ℕ)) (x : List ℕ) → 1 ≤ length xs → x ≡ slice_index_or xs 0 x
    → xs ≡ x ∷ take (length xs - 1) (drop 1 xs)
first_and_others [] x some is = absurd (omega (arith, some))
first_and_others (y ∷ ys) x some is = ap (λ h. h ∷ ys) (sym is) ∙ ap (λ t. x ∷ t) (sym (take_rest (y ∷ ys) 1))
