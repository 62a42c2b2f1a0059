-- The numbers of a table's rows after each change of the rows.
use Rattle.std.proofs.Common.{◌≡◌, ℕ, zero, suc, ◌+◌, ◌<◌, List, [], ◌∷◌, ◌++◌, length, map}
use Rattle.std.proofs.Common.{refl, sym, ap, ◌∙◌, arith, get_or, slice_set, take}
use Rattle.std.proofs.lemmas.List.{append-nil, length-map, length-take-le, take_more}
use Rattle.at_base.proofs.Numbers.{length_in_order, rises, with_twice}
use Rattle.at_base.specs.Numbers.{AreRising, with_number}
use Rattle.rtmp.specs.declared.row.Row.{Row}
use Rattle.rtmp.specs.Indexing.{number_of, numbers_of}

-- there is a number for each row
pub as_many : (rows : List Row) → length (numbers_of rows) ≡ length rows
as_many rows = length_in_order (map number_of rows) ∙ length-map rows number_of

pub numbers_rise : (rows : List Row) → AreRising 0 (numbers_of rows)
numbers_rise rows = rises (map number_of rows)

-- ---- a row at an index

-- the rows without the one at an index
abbrev others : ℕ → List Row → List Row
others i [] = []
others zero (a ∷ rows) = rows
others (suc i) (a ∷ rows) = a ∷ others i rows

-- the number of a row among the others'
number_at : (rows : List Row) (i : ℕ) (d : Row) → i < length rows
    → numbers_of rows ≡ with_number (number_of (get_or rows i d)) (numbers_of (others i rows))
number_at [] i d lt = absurd (omega arith)
number_at (a ∷ rows) zero d lt = refl
number_at (a ∷ rows) (suc i) d lt =
    ap (with_number (number_of a)) (number_at rows i d (omega (arith, lt)))
    ∙ with_twice (number_of a) (number_of (get_or rows i d)) (numbers_of (others i rows))

number_set : (rows : List Row) (i : ℕ) (row : Row) → i < length rows
    → numbers_of (slice_set rows i row) ≡ with_number (number_of row) (numbers_of (others i rows))
number_set [] i row lt = absurd (omega arith)
number_set (a ∷ rows) zero row lt = refl
number_set (a ∷ rows) (suc i) row lt =
    ap (with_number (number_of a)) (number_set rows i row (omega (arith, lt)))
    ∙ with_twice (number_of a) (number_of row) (numbers_of (others i rows))

-- a row of the same number in place of another changes no number
pub replaced_same : (rows : List Row) (i : ℕ) (old row : Row) → i < length rows → old ≡ get_or rows i old
    → number_of old ≡ number_of row → numbers_of rows ≡ numbers_of (slice_set rows i row)
replaced_same rows i old row lt is same =
    let before : numbers_of rows ≡ with_number (number_of old) (numbers_of (others i rows)) = rw (← is) at (number_at rows i old lt) in
    before ∙ ap (λ (n : ℕ). with_number n (numbers_of (others i rows))) same ∙ sym (number_set rows i row lt)

-- ---- rows one by one

numbers_among : (front : List Row) (row : Row) (after : List Row)
    → numbers_of (front ++ row ∷ after) ≡ with_number (number_of row) (numbers_of (front ++ after))
numbers_among [] row after = refl
numbers_among (a ∷ front) row after =
    ap (with_number (number_of a)) (numbers_among front row after)
    ∙ with_twice (number_of a) (number_of row) (numbers_of (front ++ after))

-- the numbers of one more row
pub numbered_more : (rows : List Row) (i : ℕ) (row : Row) → i < length rows → row ≡ get_or rows i row
    → with_number (number_of row) (numbers_of (take i rows)) ≡ numbers_of (take (i + 1) rows)
numbered_more rows i row lt is =
    let more : take (i + 1) rows ≡ take i rows ++ row ∷ [] = rw (← is) at (take_more rows i row lt) in
    rw (more, numbers_among (take i rows) row [], append-nil (take i rows)) refl

-- there are as many numbers as rows that were numbered
pub up_to : (rows : List Row) (i : ℕ) → i < length rows → length (numbers_of (take i rows)) ≡ i
up_to rows i lt = as_many (take i rows) ∙ length-take-le i rows (omega (arith, lt))

-- ---- updates that leave the numbers

pub numbers_map : (f : Row → Row) → ((r : Row) → number_of (f r) ≡ number_of r) → (rows : List Row)
    → numbers_of (map f rows) ≡ numbers_of rows
numbers_map f same [] = refl
numbers_map f same (a ∷ rows) = rw (same a, numbers_map f same rows) refl
