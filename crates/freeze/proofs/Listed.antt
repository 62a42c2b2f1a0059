-- The list of a zone table that holds the first network of a list's range is that list.
use Rattle.std.proofs.Common.{◌≡◌, ℕ, zero, suc, ◌<◌, ◌≤◌, Bool, true, false, ◌&&◌, List, [], ◌∷◌, refl, sym, ap, ◌∙◌}
use Rattle.std.proofs.Common.{subst, arith, nat_lt, nat_le}
use Rattle.std.specs.Prelude.{Option, Some, None, option_map, option_to_list, slice_get, map}
use Rattle.std.specs.List.{list_all}
use Rattle.std.specs.Option.{unwrap_or}
use Rattle.std.proofs.lemmas.Bool.{and_parts, ltb-true, lt-leb, le-leb}
use Rattle.at_base.specs.Range.{Span, is_between}
use Rattle.zip_zones.proofs.Tables.{known_ends}
use Rattle.freeze.specs.Freezing.{frozen_list}
use Rattle.zip_zones.specs.Zones.{IsZoneMap, Known, are_above, complete_at, is_complete, is_known, known_of, names_at}

-- An empty list has no element.
none : (i : ℕ) {k : Known} → slice_get [] i ≡ Some k → ⊥
none zero e = cc
none (suc i) e = cc

-- Equal options have equal values.
some_is : {X : Type 0} {a b : X} → Some a ≡ Some b → a ≡ b
some_is {X} {a} {b} e = ap (λ o. unwrap_or o a) e

-- A list in a table whose ranges are above a network starts above it.
above : (low : ℕ) (table : List Known) (i : ℕ) (k : Known) → are_above low table ≡ true → list_all is_known table ≡ true
    → slice_get table i ≡ Some k → low < k.range.start
above low [] i k a known e = elim (none i e) [ ]
above low (t ∷ table) zero k a known e =
    subst (λ (x : Known). low < x.range.start) (some_is e)
    (ltb-true low t.range.start (and_parts (nat_lt low t.range.start) (are_above t.range.end table) a).0)
above low (t ∷ table) (suc i) k a known e =
    let p = and_parts (nat_lt low t.range.start) (are_above t.range.end table) a in
    let q = and_parts (is_known t) (list_all is_known table) known in
    let further = above t.range.end table i k p.1 q.1 e in
    let first = ltb-true _ _ p.0 in
    let ends = (known_ends t q.0).1 in
    omega (arith, further, first, ends)

-- A network past the end isn't in the range.
past : (start end net : ℕ) → end < net → is_between start end net ≡ false
past start end net h = rw (lt-leb net end h) (last (nat_le start net))
  where
    last : (b : Bool) → (b && false) ≡ false
    last true = refl
    last false = refl

-- A start that isn't past the end is in the range.
at_start : (start end : ℕ) → start ≤ end → is_between start end start ≡ true
at_start start end h = rw (le-leb start start (omega arith), le-leb start end h) refl

pub own_list : (low : ℕ) (table : List Known) (i : ℕ) (k : Known) → are_above low table ≡ true → list_all is_known table ≡ true
    → slice_get table i ≡ Some k → known_of k.range.start table ≡ Some k
own_list low [] i k a known e = elim (none i e) [ ]
own_list low (t ∷ table) zero k a known e =
    subst (λ (x : Known). known_of x.range.start (t ∷ table) ≡ Some x) (some_is e)
    (rw (at_start t.range.start t.range.end (known_ends t (and_parts (is_known t) (list_all is_known table) known).0).1) refl)
own_list low (t ∷ table) (suc i) k a known e =
    let p = and_parts (nat_lt low t.range.start) (are_above t.range.end table) a in
    let q = and_parts (is_known t) (list_all is_known table) known in
    rw (past t.range.start t.range.end k.range.start (above t.range.end table i k p.1 q.1 e))
    (own_list t.range.end table i k p.1 q.1 e)

-- The table's entry for the range at an index is the list at that index.
pub list_at : (table : List Known) (i : ℕ) (range : Span) → IsZoneMap table
    → option_map (λ k. k.range) (slice_get table i) ≡ Some range → (start end : ℕ) (complete : Bool) (names : List (List ℕ))
    → start ≡ range.start → end ≡ range.end → complete ≡ complete_at start table → names ≡ names_at start table
    → record { start = start; end = end; complete = complete; zones = names } ∷ []
    ≡ map frozen_list (option_to_list (slice_get table i))
list_at table i range map_of at start end complete names s e c n = found (slice_get table i) refl at
  where
    found : (got : Option Known) → slice_get table i ≡ got → option_map (λ k. k.range) got ≡ Some range
        → record { start = start; end = end; complete = complete; zones = names } ∷ []
        ≡ map frozen_list (option_to_list got)
    found None is h = cc
    found (Some k) is h =
        let own = own_list 0 table i k map_of.apart map_of.each is in
        let first : start ≡ k.range.start = s ∙ sym (ap (λ (r : Span). r.start) (some_is h)) in
        let last : end ≡ k.range.end = e ∙ sym (ap (λ (r : Span). r.end) (some_is h)) in
        let whole : complete ≡ is_complete k = c ∙ (rw (first, own) refl) in
        let all : names ≡ k.names = n ∙ (rw (first, own) refl) in
        rw (first, last, whole, all) refl
