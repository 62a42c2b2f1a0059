-- What is put behind kept bytes leaves them as they are.
use Rattle.std.proofs.Common.{◌≡◌, ℕ, zero, suc, ◌+◌, ◌-◌, ◌<◌, ◌≤◌, List, [], ◌∷◌, ◌++◌, length, map, take, drop, slice_get}
use Rattle.std.proofs.Common.{ap, arith, refl, ◌∙◌}
use Rattle.std.proofs.lemmas.List.{drop-append-le, length-drop, map-append, take-append-le}
use Rattle.std.specs.List.{slice_range, AllByRecursion as Each}
use Rattle.cable_model.specs.Kept.{IsInside, Keeps, spanned, stored_or_none}
use Rattle.cable_model.specs.declared.kept.Span.{Span}
use Rattle.cable_model.specs.declared.kept.Span.TheVariants.{Packed, Loose}
use Rattle.cable_model.specs.declared.kept.Stored.{Stored}

-- a run of a list's elements is the same in a longer list
run_stays : {X : Type 0} (xs more : List X) (start len : ℕ) → start + len ≤ length xs
    → slice_range (xs ++ more) start (start + len) ≡ slice_range xs start (start + len)
run_stays xs more start len h =
    let rest = length-drop start xs in
    ap (take (start + len - start)) (drop-append-le start xs more (omega arith))
    ∙ take-append-le (start + len - start) (drop start xs) more (omega (arith, rest))

-- an element of a list is the same in a longer list
item_stays : {X : Type 0} (xs more : List X) (n : ℕ) → n < length xs → slice_get (xs ++ more) n ≡ slice_get xs n
item_stays [] more n h = absurd (omega arith)
item_stays (x ∷ xs) more zero h = refl
item_stays (x ∷ xs) more (suc n) h = item_stays xs more n (omega arith)

-- a span names the same bytes where more stands behind those that are there
span_stays : (packed run : List ℕ) (loose items : List Stored) (s : Span) → IsInside (length packed) (length loose) s
    → spanned (packed ++ run) (loose ++ items) s ≡ spanned packed loose s
span_stays packed run loose items (Packed len start) h = run_stays packed run start len h
span_stays packed run loose items (Loose index) h = ap stored_or_none (item_stays loose items index h)

-- so does each of several spans
spans_stay : (packed run : List ℕ) (loose items : List Stored) (ss : List Span)
    → Each (IsInside (length packed) (length loose)) ss
    → map (spanned (packed ++ run) (loose ++ items)) ss ≡ map (spanned packed loose) ss
spans_stay packed run loose items [] h = refl
spans_stay packed run loose items (s ∷ ss) h =
    let one = span_stays packed run loose items s h.0 in
    let others = spans_stay packed run loose items ss h.1 in
    cc

-- where bytes were kept, and their span was put behind the others, each number in use names the same bytes as before, and the
-- next number names these
pub one_more : (packed now_packed : List ℕ) (loose now_loose : List Stored) (s : Span) (bytes : List ℕ)
    → Keeps packed now_packed loose now_loose s bytes → (ss now_ss : List Span) → now_ss ≡ ss ++ s ∷ []
    → Each (IsInside (length packed) (length loose)) ss
    → map (spanned now_packed now_loose) now_ss ≡ map (spanned packed loose) ss ++ bytes ∷ []
one_more packed now_packed loose now_loose s bytes keeps ss now_ss is inside =
    let before : map (spanned now_packed now_loose) ss ≡ map (spanned packed loose) ss =
    rw (keeps.run.1, keeps.items.1) (spans_stay packed keeps.run.0 loose keeps.items.0 ss inside) in
    ap (map (spanned now_packed now_loose)) is
    ∙ (map-append (spanned now_packed now_loose) ss (s ∷ [])
    ∙ (ap (λ l. l ++ spanned now_packed now_loose s ∷ []) before
    ∙ ap (λ b. map (spanned packed loose) ss ++ b ∷ []) keeps.names))
