-- Elements with their indexes that are printed one after the other.
use Rattle.std.proofs.Common.{◌≡◌, ◌+◌, ◌≤◌, ◌-◌, List, Option, ℕ, drop, length, slice_index_or, subst, sym, take}
use Rattle.drawing.specs.Shapes.{each_from}
use Rattle.text.proofs.Going.{first_and_others, goes_then}
use Rattle.text.specs.Going.{Goes}

-- The text of the first of several elements was printed, and then those of the others.
pub goes_each_from : {X : Type 0} (f : ℕ → X → List ℕ) (k : ℕ) (xs : List X) (x : X) (u v w : Option (List ℕ)) (t s r : List ℕ)
    → 1 ≤ length xs → x ≡ slice_index_or xs 0 x → Goes u t (f k x) v s
    → Goes v s (each_from f (k + 1) (take (length xs - 1) (drop 1 xs))) w r → Goes u t (each_from f k xs) w r
goes_each_from f k xs x u v w t s r some is one others =
    subst (λ ys. Goes u t (each_from f k ys) w r) (sym (first_and_others xs x some is)) (goes_then u v w t s r _ _ one others)
