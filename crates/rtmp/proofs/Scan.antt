-- What a scan of the rows finds.
use Rattle.std.proofs.Common.{◌≡◌, ℕ, zero, suc, ◌+◌, ◌<◌, Bool, true, false, cond, List, [], ◌∷◌, length, slice_get}
use Rattle.std.proofs.Common.{Some, None, refl, sym, ◌∙◌, arith, nat_lt, nat_le}
use Rattle.std.specs.List.{position, position_or_len}
use Rattle.std.specs.Prelude.{unwrap_or}
use Rattle.std.proofs.lemmas.Bool.{ltb-true, ltb-false, lt-ltb, le-ltb, lt-leb, le-leb}
use Rattle.std.proofs.lemmas.List.Folds.{find_at}
use Rattle.std.proofs.lemmas.Option.{slice_get_past}
use Rattle.at_base.specs.Range.{Span, same_range}
use Rattle.at_base.specs.Spans.{AreApart, IsAt, IsBefore, before, item_of}
use Rattle.at_base.proofs.Cases.{by_test}
use Rattle.at_base.proofs.Lists.{found_is}
use Rattle.at_base.proofs.Ranges.{one_range}
use Rattle.at_base.proofs.Spans.{at_place, before_fits, before_place, found_apart}
use Rattle.rtmp.specs.declared.row.Row.{Row}

one_more : (a b : ℕ) → a ≡ b → 1 + a ≡ suc b
one_more a b e = omega (arith, e)

-- the first row of a range is the first that doesn't start below it
first_place : (range : Span) (low : ℕ) (rows : List Row) (x : Row) → AreApart (λ r. r.range) low rows
    → item_of (λ r. r.range) range rows ≡ Some x
    → position_or_len (λ r. same_range r.range range) rows ≡ before (λ r. r.range) range.start rows
first_place range low [] x h found = cc
first_place range low (y ∷ rows) x h found = by (same_range y.range range) refl found (first_place range y.range.end rows x h.2)
  where
    by : (b : Bool) → same_range y.range range ≡ b → (cond b (Some y) (item_of (λ r. r.range) range rows)) ≡ Some x
        → (item_of (λ r. r.range) range rows ≡ Some x
        → position_or_len (λ r. same_range r.range range) rows ≡ before (λ r. r.range) range.start rows)
        → position_or_len (λ r. same_range r.range range) (y ∷ rows) ≡ before (λ r. r.range) range.start (y ∷ rows)
    by true t f rest =
        let one = one_range y.range range t in
        let starts : nat_lt y.range.start range.start ≡ false = rw one (le-ltb range.start range.start (omega arith)) in
        rw (t, starts) refl
    by false t f rest =
        let over = (found_apart (λ r. r.range) range y.range.end rows x h.2 f).0 in
        let starts : nat_lt y.range.start range.start ≡ true = lt-ltb _ _ (omega (arith, over, h.1)) in
        rw (t, starts) (one_more _ _ (rest f))

-- there is an item at each index
some_at : (rows : List Row) (i : ℕ) → i < length rows → (x : Row) × (slice_get rows i ≡ Some x)
some_at [] i lt = absurd (omega arith)
some_at (a ∷ rows) zero lt = (a, refl)
some_at (a ∷ rows) (suc i) lt = some_at rows i (omega (arith, lt))

-- the row that the scan finds is the one of its range
pub found_there : (range : Span) (rows : List Row) (i : ℕ) → AreApart (λ r. r.range) 0 rows
    → position (λ r. same_range r.range range) rows ≡ Some i → IsAt (λ r. r.range) range rows i
found_there range rows i h e = by (nat_lt (position_or_len p rows) (length rows)) refl e
  where
    p : Row → Bool
    p = λ r. same_range r.range range

    at : (x : Row) → slice_get rows (position_or_len p rows) ≡ Some x → position_or_len p rows ≡ i → IsAt (λ r. r.range) range rows i
    at x read place =
        let found : item_of (λ r. r.range) range rows ≡ Some x = find_at p rows ∙ read in
        let first : i ≡ before (λ r. r.range) range.start rows = sym place ∙ first_place range 0 rows x h found in
        rw first (at_place (λ r. r.range) range rows x (rw (← first, ← place) read) (found_is p rows x found))

    by : (b : Bool) → nat_lt (position_or_len p rows) (length rows) ≡ b → cond b (Some (position_or_len p rows)) None ≡ Some i
        → IsAt (λ r. r.range) range rows i
    by true t e = let x = some_at rows (position_or_len p rows) (ltb-true _ _ t) in let place : position_or_len p rows ≡ i = cc in at x.0 x.1 place
    by false t e = cc

-- where the scan finds none, there is none
pub none_there : (range : Span) (rows : List Row) → position (λ r. same_range r.range range) rows ≡ None
    → item_of (λ r. r.range) range rows ≡ None
none_there range rows e =
    find_at p rows ∙ past (nat_lt (position_or_len p rows) (length rows)) refl e
  where
    p : Row → Bool
    p = λ r. same_range r.range range

    past : (b : Bool) → nat_lt (position_or_len p rows) (length rows) ≡ b → cond b (Some (position_or_len p rows)) None ≡ None
        → slice_get rows (position_or_len p rows) ≡ None
    past true t e = cc
    past false t e = slice_get_past rows _ (ltb-false _ _ t)

-- the first row that doesn't start below a network
pub first_from : (start : ℕ) (rows : List Row)
    → position_or_len (λ r. nat_le start r.range.start) rows ≡ before (λ r. r.range) start rows
first_from start [] = refl
first_from start (y ∷ rows) =
    by_test (nat_lt y.range.start start)
    (λ t. rw (t, lt-leb start y.range.start (ltb-true _ _ t)) (one_more _ _ (first_from start rows)))
    (λ f. rw (f, le-leb start y.range.start (ltb-false _ _ f)) refl)

pub place_from : (start : ℕ) (rows : List Row)
    → unwrap_or (position (λ r. nat_le start r.range.start) rows) (length rows) ≡ before (λ r. r.range) start rows
place_from start rows = by (nat_lt (position_or_len q rows) (length rows)) refl
  where
    q : Row → Bool
    q = λ r. nat_le start r.range.start

    by : (b : Bool) → nat_lt (position_or_len q rows) (length rows) ≡ b
        → unwrap_or (cond b (Some (position_or_len q rows)) None) (length rows) ≡ before (λ r. r.range) start rows
    by true t = first_from start rows
    by false t =
        let fits = before_fits (λ r. r.range) start rows in
        let first = first_from start rows in
        let over = ltb-false _ _ t in
        omega (arith, fits, first, over)

-- a range without a row is put before the first row that doesn't start below it
pub put_before : (range : Span) (rows : List Row) → AreApart (λ r. r.range) 0 rows → item_of (λ r. r.range) range rows ≡ None
    → IsBefore (λ r. r.range) range rows (before (λ r. r.range) range.start rows)
put_before range rows h none = before_place (λ r. r.range) range 0 rows h (λ x e. other x e (same_range x.range range) refl)
  where
    other : (x : Row) → slice_get rows (before (λ r. r.range) range.start rows) ≡ Some x → (b : Bool) → same_range x.range range ≡ b
        → b ≡ false
    other x e true t =
        let at = at_place (λ r. r.range) range rows x e t in
        let found = at.found in
        cc
    other x e false t = refl
