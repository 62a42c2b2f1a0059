-- The lines of entries, one part after the other.
use Rattle.std.proofs.Common.{◌≡◌, ℕ, ◌+◌, ◌-◌, ◌≤◌, ◌<◌, List, [], ◌∷◌, ◌++◌, Some, ap, drop, get_or, length, map}
use Rattle.std.proofs.Common.{slice_get, sym, subst, take, refl, ◌∙◌, arith}
use Rattle.std.proofs.lemmas.List.{append_assoc, drop-map, get_or_default, length-drop, map-append, take_all}
use Rattle.std.proofs.lemmas.Option.{slice_get_read}
use Rattle.cable_model.specs.Transcript.{Entry}
use Rattle.cable_model.specs.declared.entry.Entry.{Entry as Line}
use Rattle.frozen.proofs.Refused.{take_one}
use Rattle.trace_lines.specs.Lines.{Printed, line, lines, with_cable, with_cables}
use Rattle.trace_lines.specs.Stations.{Addresses}

-- The cables of entries, followed by those of more entries.
pub cables_append : (c : List ℕ) (xs ys : List Entry) → with_cables c (xs ++ ys) ≡ with_cables (with_cables c xs) ys
cables_append c [] ys = refl
cables_append c (e ∷ xs) ys = cables_append (with_cable c e) xs ys

-- The lines of entries, followed by those of more entries.
pub lines_append : (i : Addresses) (c : List ℕ) (xs ys : List Entry)
    → lines i c (xs ++ ys) ≡ lines i c xs ++ lines i (with_cables c xs) ys
lines_append i c [] ys = refl
lines_append i c (e ∷ xs) ys =
    let d : List ℕ = with_cable c e in
    ap (λ (z : List ℕ). line i c e ++ 10 ∷ z) (lines_append i d xs ys)
    ∙ sym (append_assoc (line i c e) (10 ∷ lines i d xs) (lines i (with_cables d xs) ys))

-- The lines of entries, followed by that of one more entry.
pub lines_one : (i : Addresses) (c : List ℕ) (xs : List Entry) (e : Entry)
    → lines i c (xs ++ e ∷ []) ≡ lines i c xs ++ (line i (with_cables c xs) e ++ 10 ∷ [])
lines_one i c xs e = lines_append i c xs (e ∷ [])

-- The element at an index.
pub there : {X : Type 0} (xs : List X) (k : ℕ) (d : X) → k < length xs → slice_get xs k ≡ Some (get_or xs k d)
there xs k d inside =
    slice_get_read xs (length xs) k (get_or xs k d) refl inside (get_or_default xs k d (get_or xs k d) inside)

-- The entries up to one, followed by that one.
pub one_further : (f : Line → Entry) (xs : List Line) (k : ℕ) (x : Line) → slice_get xs k ≡ Some x
    → map f (take (k + 1) xs) ≡ map f (take k xs) ++ f x ∷ []
one_further f xs k x at = ap (map f) (take_one xs k x at) ∙ map-append f (take k xs) (x ∷ [])

-- The remaining entries from an index on.
pub from_on : (f : Line → Entry) (xs : List Line) (n : ℕ) → n ≤ length xs
    → map f (take (length xs - n) (drop n xs)) ≡ drop n (map f xs)
from_on f xs n inside =
    ap (map f) (take_all (length xs - n) (drop n xs) (subst (λ k. k ≤ length xs - n) (sym (length-drop n xs)) (omega arith)))
    ∙ sym (drop-map f n xs)

-- The state of a printer of entries.
abbrev pub printed : Addresses → List ℕ → Printed
printed i cables = record { addresses = i; cables = cables }
