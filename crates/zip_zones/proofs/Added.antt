-- Names of one range that are added to a table one after the other.
use Rattle.std.proofs.Common.{◌≡◌, ◌==◌, ℕ, ◌≤◌, Bool, true, false, not, ◌&&◌, ◌||◌, List, [], ◌∷◌, ◌++◌, drop, length, append_assoc, refl, sym, ap, subst, ◌∙◌, arith}
use Rattle.std.proofs.Common.{Some, None, Option, nat_lt, nat_le, if◌then◌else◌}
use Rattle.std.proofs.Math.Bool.{and-false}
use Rattle.std.proofs.Math.Seq.{drop-append_seam}
use Rattle.std.specs.List.{list_any}
use Rattle.std.proofs.lemmas.Bool.Decides.{nat_tests}
use Rattle.std.proofs.lemmas.Bool.{eq-eqb, eqb-true, le-ltb, lt-ltb}
use Rattle.at_base.specs.Range.{Span, is_range, overlaps, same_range}
use Rattle.at_base.specs.Limits.{max_zones}
use Rattle.at_base.specs.Text.{same_name}
use Rattle.at_base.specs.Spans.{item_of, overlaps_another, with_item}
use Rattle.at_base.proofs.Ranges.{not_same, one_range}
use Rattle.at_base.proofs.Spans.{put_cases}
use Rattle.zip_zones.specs.declared.entry.Entry.{Entry}
use Rattle.zip_zones.specs.Answers.{heard_all, is_taken, with_names}
use Rattle.zip_zones.specs.Zones.{Known, IsZoneMap, heard, is_complete, is_full_for, is_known, known_for, list_of, with_known, with_name, with_zone}
use Rattle.zip_zones.specs.Indexing.{any_named}
use Rattle.zip_zones.proofs.Tables.{list_known, list_own, same_after, with_map, zone_known}

same_span : (r : Span) → same_range r r ≡ true
same_span r = rw (itself r.start, itself r.end) refl
  where
    itself : (n : ℕ) → (n == n) ≡ true
    itself n = grind (arith, nat_tests)

-- ---- an item that is put twice, of any items with ranges

module _ {A : Type 0} (span : A → Span) where
  -- an item that was put is the item of its range
  pub item_put : (a : A) (items : List A) → item_of span (span a) (with_item span a items) ≡ Some a
  item_put a [] = rw (same_span (span a)) refl
  item_put a (x ∷ items) =
      put_cases span (λ l. item_of span (span a) l ≡ Some a) a x items
      (λ t. rw (not_same (span x) (span a) (λ s. omega (arith, s, t))) (item_put a items))
      (λ s. rw (same_span (span a)) refl) (λ t s. rw (same_span (span a)) refl)

  -- an item takes the place of the first one, if that has its range
  over_first : (a b : A) (items : List A) → span a ≡ span b → with_item span b (a ∷ items) ≡ b ∷ items
  over_first a b items same =
      let below : nat_lt (span a).start (span b).start ≡ false = le-ltb (span a).start (span b).start (rw same (omega arith)) in
      let this : same_range (span a) (span b) ≡ true = rw same (same_span (span b)) in
      rw (below, this) refl

  -- of two items of a range that are put, the second is there
  pub put_twice : (a b : A) (items : List A) → span a ≡ span b → with_item span b (with_item span a items) ≡ with_item span b items
  put_twice a b [] same = over_first a b [] same
  put_twice a b (x ∷ items) same =
      put_cases span (λ l. with_item span b l ≡ with_item span b (x ∷ items)) a x items
      (λ t.
      let later : nat_lt (span x).start (span b).start ≡ true = lt-ltb _ _ (rw (← same) t) in
      rw later (ap (λ (l : List A). x ∷ l) (put_twice a b items same)))
      (λ s. over_first a b items same ∙ sym (over_first x b items (one_range (span x) (span a) s ∙ same)))
      (λ t s.
      let below : nat_lt (span x).start (span b).start ≡ false = le-ltb (span x).start (span b).start (rw (← same) t) in
      let other : same_range (span x) (span b) ≡ false = rw (← same) s in
      over_first a b (x ∷ items) same ∙ sym (rw (below, other) refl))

  -- an item that is put isn't another one of its range
  pub others_put : (a : A) (items : List A)
      → overlaps_another span (span a) (with_item span a items) ≡ overlaps_another span (span a) items
  others_put a [] = rw (same_span (span a), and-false (overlaps (span a) (span a))) refl
  others_put a (x ∷ items) =
      put_cases span (λ l. overlaps_another span (span a) l ≡ overlaps_another span (span a) (x ∷ items)) a x items
      (λ t. ap (λ (b : Bool). (overlaps (span x) (span a) && not (same_range (span x) (span a))) || b) (others_put a items))
      (λ s. rw (same_span (span a), s, and-false (overlaps (span a) (span a)), and-false (overlaps (span x) (span a))) refl)
      (λ t s. rw (same_span (span a), and-false (overlaps (span a) (span a))) refl)

-- ---- names that are added to one list

same_total : (name : List ℕ) (k : Known) → (with_zone name k).total ≡ k.total
same_total name k = elim (is_complete k) as (λ b. (if b then k else record k { names = with_name k.names name }).total
    ≡ k.total) [ true ↦ refl | false ↦ refl ]

list_total : (range : Span) (total : ℕ) (o : Option Known) → (list_of range total o).total ≡ total
list_total range total None = refl
list_total range total (Some k) = by (k.total == total) refl
  where
    by : (b : Bool) → (k.total == total) ≡ b
        → (if b then k else record { range = range; total = total; names = [] }).total ≡ total
    by true t = eqb-true _ _ t
    by false t = refl

pub each_known : (entries : List Entry) (k : Known) → is_known k ≡ true → is_known (with_names entries k) ≡ true
each_known [] k h = h
each_known (e ∷ entries) k h = each_known entries (with_zone e.name k) (zone_known e.name k h)

pub each_own : (entries : List Entry) (k : Known) → (with_names entries k).range ≡ k.range
each_own [] k = refl
each_own (e ∷ entries) k = each_own entries (with_zone e.name k) ∙ same_after e.name k

-- ---- names that are added to a table

-- names that are added to a table with a list of their range go to that list
each_over : (range : Span) (total : ℕ) (entries : List Entry) (k : Known) (table : List Known) → k.range ≡ range → k.total ≡ total
    → heard_all range total entries (with_known k table) ≡ with_known (with_names entries k) table
each_over range total [] k table own all = refl
each_over range total (e ∷ entries) k table own all =
    let found : known_for range (with_known k table) ≡ Some k =
    subst (λ (r : Span). known_for r (with_known k table) ≡ Some k) own (item_put (λ k. k.range) k table) in
    let stays : list_of range total (Some k) ≡ k = rw (eq-eqb k.total total all) refl in
    let one : heard range total e.name (with_known k table) ≡ with_known (with_zone e.name k) table =
    ap (λ (o : Option Known). with_known (with_zone e.name (list_of range total o)) (with_known k table)) found
    ∙ ap (λ (l : Known). with_known (with_zone e.name l) (with_known k table)) stays
    ∙ put_twice (λ k. k.range) k (with_zone e.name k) table (sym (same_after e.name k)) in
    ap (heard_all range total entries) one
    ∙ each_over range total entries (with_zone e.name k) table (same_after e.name k ∙ own) (same_total e.name k ∙ all)

-- the list of a range after names are added
abbrev pub list_after : Span → ℕ → List Entry → List Known → Known
list_after range total entries table = with_names entries (list_of range total (known_for range table))

pub after_own : (range : Span) (total : ℕ) (entries : List Entry) (table : List Known) → (list_after range total entries table).range ≡ range
after_own range total entries table = each_own entries (list_of range total (known_for range table)) ∙ list_own range total table

pub after_known : (range : Span) (total : ℕ) (entries : List Entry) (table : List Known) → is_range range.start range.end ≡ true
    → total ≤ max_zones → IsZoneMap table → is_known (list_after range total entries table) ≡ true
after_known range total entries table valid few h =
    each_known entries (list_of range total (known_for range table)) (list_known range total table valid few h.each).0

-- putting that list keeps the map
pub after_map : (range : Span) (total : ℕ) (entries : List Entry) (table : List Known) → is_range range.start range.end ≡ true
    → total ≤ max_zones → overlaps_another (λ k. k.range) range table ≡ false → is_full_for range table ≡ false → IsZoneMap table
    → IsZoneMap (with_known (list_after range total entries table) table)
after_map range total entries table valid few none room h =
    let own = after_own range total entries table in
    with_map (list_after range total entries table) table (after_known range total entries table valid few h)
    (ap (λ s. overlaps_another (λ k. k.range) s table) own ∙ none) (ap (λ s. is_full_for s table) own ∙ room) h

-- names that are added to a table go to the list of their range, unless there are none
pub all_at_once : (range : Span) (total : ℕ) (entries : List Entry) (table : List Known) → (length entries == 0) ≡ false
    → heard_all range total entries table ≡ with_known (list_after range total entries table) table
all_at_once range total [] table some = cc
all_at_once range total (e ∷ entries) table some =
    let k = list_of range total (known_for range table) in
    each_over range total entries (with_zone e.name k) table (same_after e.name k ∙ list_own range total table)
    (same_total e.name k ∙ list_total range total (known_for range table))

-- a range whose list was accepted is accepted again
pub taken_again : (range : Span) (total : ℕ) (name : List ℕ) (table : List Known) → is_taken range total table ≡ true
    → is_taken range total (heard range total name table) ≡ true
taken_again range total name table taken =
    let l = list_of range total (known_for range table) in
    let k = with_zone name l in
    let own : k.range ≡ range = same_after name l ∙ list_own range total table in
    let others = subst (λ (r : Span). overlaps_another (λ k. k.range) r (with_known k table) ≡ overlaps_another (λ k. k.range) r table)
    own (others_put (λ k. k.range) k table) in
    let found = subst (λ (r : Span). known_for r (with_known k table) ≡ Some k) own (item_put (λ k. k.range) k table) in
    rw (others, found) (first_two (not (overlaps_another (λ k. k.range) range table)) (nat_le total 255) _ taken)
  where
    first_two : (a b c : Bool) → (a && b && c) ≡ true → (a && b && true) ≡ true
    first_two true true c h = refl
    first_two true false c h = cc
    first_two false b c h = cc

-- ---- a list that begins with the names that it had

-- names that begin with others go on with what follows these
pub goes_on : (kept more names : List (List ℕ)) → names ≡ kept ++ more → names ≡ kept ++ drop (length kept) names
goes_on kept more names e = e ∙ ap (λ (l : List (List ℕ)). kept ++ l) (sym (ap (drop (length kept)) e ∙ drop-append_seam kept more))

-- a name that is added is added at the end
pub still_on : (kept : List (List ℕ)) (name : List ℕ) (k : Known) → k.names ≡ kept ++ drop (length kept) k.names
    → (with_zone name k).names ≡ kept ++ drop (length kept) (with_zone name k).names
still_on kept name k on = by (is_complete k) (list_any (same_name name) k.names)
  where
    by : (complete has : Bool) → (if complete then k else record k { names = if has then k.names else k.names ++ name ∷ [] }).names
        ≡ kept ++ drop (length kept) (if complete then k else record k { names = if has then k.names else k.names ++ name ∷ [] }).names
    by true has = on
    by false true = on
    by false false =
        goes_on kept (drop (length kept) k.names ++ name ∷ []) (k.names ++ name ∷ [])
        (ap (λ (l : List (List ℕ)). l ++ name ∷ []) on ∙ append_assoc kept (drop (length kept) k.names) (name ∷ []))

pub each_on : (kept : List (List ℕ)) (entries : List Entry) (k : Known) → k.names ≡ kept ++ drop (length kept) k.names
    → (with_names entries k).names ≡ kept ++ drop (length kept) (with_names entries k).names
each_on kept [] k on = on
each_on kept (e ∷ entries) k on = each_on kept entries (with_zone e.name k) (still_on kept e.name k on)

-- numbers give no name of a list without names
pub none_named : (zone : List ℕ) (numbers : List ℕ) → any_named zone [] numbers ≡ false
none_named zone [] = refl
none_named zone (n ∷ numbers) = none_named zone numbers
