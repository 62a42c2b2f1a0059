-- The lists that are removed with their rows, row by row.
use Rattle.std.proofs.Common.{◌≡◌, ◌∙◌, ℕ, ◌+◌, ◌≤◌, Bool, true, false, not, ◌||◌, List, [], ◌∷◌, filter, drop, length, Some}
use Rattle.std.proofs.Common.{refl, sym, ap, if◌then◌else◌}
use Rattle.std.specs.Prelude.{slice_get}
use Rattle.std.proofs.lemmas.List.{drop_all}
use Rattle.std.specs.List.{list_any}
use Rattle.at_base.specs.Range.{same_range}
use Rattle.rtmp.specs.declared.row.Row.{Row}
use Rattle.rtmp.specs.Routes.{is_over}
use Rattle.rtmp.proofs.Sent.{row_next}
use Rattle.zip_zones.specs.Zones.{Known, without}
use Rattle.learning.specs.Forgetting.{gone, without_gone}

-- without rows, no list is removed
none_gone : (table : List Known) → without_gone [] table ≡ table
none_gone [] = refl
none_gone (k ∷ table) = ap (λ (t : List Known). k ∷ t) (none_gone table)

one_twice : {X : Type 0} (p q : X → Bool) (x : X) (xs : List X) (a b : Bool) → p x ≡ a → q x ≡ b
    → filter (λ y. not (q y)) (filter (λ y. not (p y)) xs) ≡ filter (λ y. not (p y || q y)) xs
    → filter (λ y. not (q y)) (filter (λ y. not (p y)) (x ∷ xs)) ≡ filter (λ y. not (p y || q y)) (x ∷ xs)
one_twice p q x xs true b t u rest = rw t rest
one_twice p q x xs false true t u rest = rw (t, u) rest
one_twice {X = X} p q x xs false false t u rest = rw (t, u) (ap (λ (l : List X). x ∷ l) rest)

-- two filters, one after the other
pub filter_twice : {X : Type 0} (p q : X → Bool) (xs : List X)
    → filter (λ x. not (q x)) (filter (λ x. not (p x)) xs) ≡ filter (λ x. not (p x || q x)) xs
filter_twice p q [] = refl
filter_twice p q (x ∷ xs) = one_twice p q x xs (p x) (q x) refl refl (filter_twice p q xs)

-- one more row
gone_next : (r : Row) (rows : List Row) (table : List Known)
    → without_gone rows (if is_over r then without r.range table else table) ≡ without_gone (r ∷ rows) table
gone_next r rows table = by (is_over r) refl
  where
    by : (b : Bool) → is_over r ≡ b
        → without_gone rows (if is_over r then without r.range table else table) ≡ without_gone (r ∷ rows) table
    by true t = rw t (filter_twice (λ k. same_range k.range r.range) (λ k. list_any (same_range k.range) (gone rows)) table)
    by false t = rw t refl

-- the row at an index
pub gone_at : (rows : List Row) (i : ℕ) (r : Row) (table next left : List Known) → slice_get rows i ≡ Some r
    → next ≡ (if is_over r then without r.range table else table) → without_gone (drop i rows) table ≡ left
    → without_gone (drop (i + 1) rows) next ≡ left
gone_at rows i r table next left found is before =
    ap (without_gone (drop (i + 1) rows)) is ∙ gone_next r (drop (i + 1) rows) table
    ∙ ap (λ (l : List Row). without_gone l table) (sym (row_next rows i r found)) ∙ before

-- past the last row
pub gone_past : (rows : List Row) (i : ℕ) (table left : List Known) → length rows ≤ i
    → without_gone (drop i rows) table ≡ left → table ≡ left
gone_past rows i table left past before =
    sym (none_gone table) ∙ ap (λ (l : List Row). without_gone l table) (sym (drop_all i rows past)) ∙ before
