-- What is found in the index of a zone table: the ranges whose lists have a zone.
use Rattle.std.proofs.Common.{◌≡◌, ℕ, zero, suc, ◌+◌, ◌/◌, ◌%◌, ◌<◌, ◌≤◌, Bool, true, false, not, ◌&&◌, ◌||◌, List, [], ◌∷◌, ◌++◌, length, map}
use Rattle.std.proofs.Common.{filter, filter_map, flat_map, fold, Option, Some, None, slice_get, refl, sym, ap, ◌∙◌, arith, nat_lt, nat_le, subst}
use Rattle.std.proofs.Common.{if◌then◌else◌, true≢false}
use Rattle.std.specs.List.{list_all, list_any}
use Rattle.std.proofs.lemmas.Bool.{and_parts, lt-ltb, le-leb, leb-true, ltb-true}
use Rattle.std.proofs.lemmas.Bool.Decides.{nat_tests}
use Rattle.std.proofs.lemmas.List.Elements.{filter-append, filter_map-append}
use Rattle.at_base.specs.Range.{Span, is_between}
use Rattle.at_base.specs.Spans.{AreApart}
use Rattle.at_base.specs.Text.{same_name}
use Rattle.at_base.specs.Numbers.{AreRising}
use Rattle.at_base.proofs.Numbers.{filter_in_order, in_order_of, rising_lower}
use Rattle.at_base.proofs.Ranges.{between_when, ends_of}
use Rattle.at_base.proofs.Texts.{same_name_congr, same_name_is}
use Rattle.at_base.specs.Limits.{max_zones}
use Rattle.zip_zones.specs.Zones.{Known, IsZoneMap, are_distinct, has_zone, is_known, known_of, ranges_of}
use Rattle.zip_zones.specs.Indexing.{IsIndexed, hit, index_of, key_of, key_step, number_of, numbers_from, numbers_in, with_key}
use Rattle.zip_zones.proofs.Tables.{known_parts, lists_apart}

-- ---- numbers of names

-- names that are equal, ignoring case, have one key
pub same_keys : (a b : List ℕ) → same_name a b ≡ true → key_of a ≡ key_of b
unfolding key_of
same_keys a b t = ap (λ (bytes : List ℕ). fold key_step 0 bytes) (same_name_is a b t)

-- the test that a number is of a name with a key
abbrev pub of_key : ℕ → ℕ → Bool
of_key z n = nat_le (number_of z 0 0) n && nat_lt n (number_of (suc z) 0 0)

key_is : (z key start nth : ℕ) → start < 65536 → nth < 256 → of_key z (number_of key start nth) ≡ true → key ≡ z
key_is z key start nth s n t =
    let h = and_parts (nat_le (number_of z 0 0) (number_of key start nth)) (nat_lt (number_of key start nth) (number_of (suc z) 0 0)) t in
    omega (arith, s, n, leb-true _ _ h.0, ltb-true _ _ h.1)

is_key : (key start nth : ℕ) → start < 65536 → nth < 256 → of_key key (number_of key start nth) ≡ true
is_key key start nth s n =
    let low : number_of key 0 0 ≤ number_of key start nth = omega arith in
    let high : number_of key start nth < number_of (suc key) 0 0 = omega (arith, s, n) in
    rw (le-leb _ _ low, lt-ltb _ _ high) refl

-- a number has its network and its place
pub start_in : (key start nth : ℕ) → start < 65536 → nth < 256 → number_of key start nth / 256 % 65536 ≡ start
start_in key start nth s n = omega (arith, s, n)

pub nth_in : (key start nth : ℕ) → nth < 256 → number_of key start nth % 256 ≡ nth
nth_in key start nth n = omega (arith, n)

-- ---- numbers of one key rise

rising_on : (z start nth low : ℕ) (names : List (List ℕ)) (rest : List ℕ) → start < 65536 → nth + length names ≤ 256
    → low ≤ number_of z start nth → AreRising (number_of z (suc start) 0) rest
    → AreRising low (filter (of_key z) (numbers_from start nth names) ++ rest)
rising_on z start nth low [] rest s few le r = rising_lower low (number_of z (suc start) 0) rest (omega (arith, few, le)) r
rising_on z start nth low (name ∷ names) rest s few le r =
    by (of_key z (number_of (key_of name) start nth)) refl
    (λ l le. rising_on z start (suc nth) l names rest s (omega (arith, few)) le r)
  where
    by : (b : Bool) → of_key z (number_of (key_of name) start nth) ≡ b
        → ((l : ℕ) → l ≤ number_of z start (suc nth) → AreRising l (filter (of_key z) (numbers_from start (suc nth) names) ++ rest))
        → AreRising low ((if b then number_of (key_of name) start nth ∷ filter (of_key z) (numbers_from start (suc nth) names)
        else filter (of_key z) (numbers_from start (suc nth) names)) ++ rest)
    by true t more =
        let is : key_of name ≡ z = key_is z (key_of name) start nth s (omega (arith, few)) t in
        (omega (arith, le, is), more (number_of (key_of name) start nth) (omega (arith, is)))
    by false t more = more low (omega (arith, le))

-- a list starts below 2^16, and has fewer than 2^8 names
pub small : (k : Known) → is_known k ≡ true → (k.range.start < 65536) × (length k.names ≤ max_zones)
small k h =
    let p = known_parts k h in
    let e = ends_of k.range.start k.range.end p.0 in
    (omega (arith, e.1, e.2), omega (arith, p.1, p.2))

rising_table : (z low : ℕ) (table : List Known) → AreApart (λ k. k.range) low table → list_all is_known table ≡ true
    → AreRising (number_of z (suc low) 0) (filter (of_key z) (flat_map numbers_in table))
rising_table z low [] h each = tt
rising_table z low (k ∷ table) h each =
    let e = and_parts (is_known k) (list_all is_known table) each in
    let s = small k e.0 in
    let rest = filter (of_key z) (flat_map numbers_in table) in
    let later = rising_lower (number_of z (suc k.range.start) 0) (number_of z (suc k.range.end) 0) rest (omega (arith, h.1))
    (rising_table z k.range.end table h.2 e.1) in
    rw (filter-append (of_key z) (numbers_in k) (flat_map numbers_in table))
    (rising_on z k.range.start 0 (number_of z (suc low) 0) k.names rest s.0 (omega (arith, s.1)) (omega (arith, h.0)) later)

-- the index's numbers of a key are those of the lists, one list after the other
pub key_found : (z : ℕ) (table : List Known) → IsZoneMap table
    → with_key z (index_of table) ≡ filter (of_key z) (flat_map numbers_in table)
key_found z table h =
    filter_in_order (of_key z) (flat_map numbers_in table)
    ∙ in_order_of (number_of z 1 0) (filter (of_key z) (flat_map numbers_in table)) (rising_table z 0 table (lists_apart table h) h.each)

-- ---- each list is found by its first network

abbrev AreFound : List Known → List Known → Type 0
AreFound whole [] = Unit {0}
AreFound whole (k ∷ table) = (known_of k.range.start whole ≡ Some k) × AreFound whole table

found_past : (a : Known) (whole table : List Known) (low : ℕ) → a.range.end ≤ low → AreApart (λ k. k.range) low table
    → AreFound whole table → AreFound (a ∷ whole) table
found_past a whole [] low le h f = tt
found_past a whole (k ∷ table) low le h f =
    let past : is_between a.range.start a.range.end k.range.start ≡ false = over a.range.start a.range.end k.range.start (omega (arith, le, h.0)) in
    (rw past f.0, found_past a whole table k.range.end (omega (arith, le, h.0, h.1)) h.2 f.1)
  where
    over : (start end net : ℕ) → end < net → is_between start end net ≡ false
    over start end net lt = grind (arith, nat_tests)

each_found : (low : ℕ) (table : List Known) → AreApart (λ k. k.range) low table → AreFound table table
each_found low [] h = tt
each_found low (k ∷ table) h = (
  rw (between_when k.range.start k.range.end k.range.start (omega arith) h.1) refl,
  found_past k table table k.range.end (omega arith) h.2 (each_found k.range.end table h.2),
)

-- ---- what is found of each list

pub within : {A : Type 0} (xs : List A) (i : ℕ) (x : A) → slice_get xs i ≡ Some x → i < length xs
within [] i x e = cc
within (y ∷ xs) zero x e = omega arith
within (y ∷ xs) (suc i) x e = omega (arith, within xs i x e)

-- the range once for each name that is the zone
abbrev once_each : Span → List ℕ → List (List ℕ) → List Span
once_each range zone names = map (λ name. range) (filter (same_name zone) names)

found_from : (f : ℕ → Option Span) (range : Span) (zone : List ℕ) (start nth : ℕ) (names : List (List ℕ)) → start < 65536
    → nth + length names ≤ 256
    → ((i : ℕ) (name : List ℕ) → slice_get names i ≡ Some name
    → f (number_of (key_of name) start (nth + i)) ≡ (if same_name zone name then Some range else None))
    → filter_map f (filter (of_key (key_of zone)) (numbers_from start nth names)) ≡ once_each range zone names
found_from f range zone start nth [] s few agrees = refl
found_from f range zone start nth (name ∷ names) s few agrees =
    by (same_name zone name) (of_key (key_of zone) (number_of (key_of name) start nth)) refl refl first
    (found_from f range zone start (suc nth) names s (omega (arith, few)) later)
  where
    first : f (number_of (key_of name) start nth) ≡ (if same_name zone name then Some range else None)
    first = subst (λ (m : ℕ). f (number_of (key_of name) start m) ≡ (if same_name zone name then Some range else None))
        (omega arith) (agrees 0 name refl)

    later : (i : ℕ) (n : List ℕ) → slice_get names i ≡ Some n
        → f (number_of (key_of n) start (suc nth + i)) ≡ (if same_name zone n then Some range else None)
    later i n e = subst (λ (m : ℕ). f (number_of (key_of n) start m) ≡ (if same_name zone n then Some range else None))
        (omega arith) (agrees (suc i) n e)

    by : (b t : Bool) → same_name zone name ≡ b → of_key (key_of zone) (number_of (key_of name) start nth) ≡ t
        → f (number_of (key_of name) start nth) ≡ (if b then Some range else None)
        → filter_map f (filter (of_key (key_of zone)) (numbers_from start (suc nth) names)) ≡ once_each range zone names
        → filter_map f (if t then number_of (key_of name) start nth ∷ filter (of_key (key_of zone)) (numbers_from start (suc nth) names)
        else filter (of_key (key_of zone)) (numbers_from start (suc nth) names))
        ≡ map (λ name. range) (if b then name ∷ filter (same_name zone) names else filter (same_name zone) names)
    by true true e u is rest = rw is (ap (λ (l : List Span). range ∷ l) rest)
    by true false e u is rest =
        let one : of_key (key_of zone) (number_of (key_of name) start nth) ≡ true =
        rw (same_keys zone name e) (is_key (key_of name) start nth s (omega (arith, few))) in
        absurd (true≢false (sym one ∙ u))
    by false true e u is rest = rw is rest
    by false false e u is rest = rest

any_same : (zone name : List ℕ) (names : List (List ℕ)) → same_name zone name ≡ true
    → list_any (same_name zone) names ≡ list_any (same_name name) names
any_same zone name [] t = refl
any_same zone name (n ∷ names) t = rw (same_name_congr zone name n t, any_same zone name names t) refl

none_pass : (p : List ℕ → Bool) (names : List (List ℕ)) → list_any p names ≡ false → filter p names ≡ []
none_pass p [] h = refl
none_pass p (n ∷ names) h = by (p n) h (none_pass p names)
  where
    by : (b : Bool) → (b || list_any p names) ≡ false → (list_any p names ≡ false → filter p names ≡ [])
        → (if b then n ∷ filter p names else filter p names) ≡ []
    by true h rest = cc
    by false h rest = rest h

-- names that are distinct have the zone once, if at all
once : (range : Span) (zone : List ℕ) (names : List (List ℕ)) → are_distinct names ≡ true
    → once_each range zone names ≡ (if list_any (same_name zone) names then range ∷ [] else [])
once range zone [] h = refl
once range zone (name ∷ names) h =
    let d = and_parts (not (list_any (same_name name) names)) (are_distinct names) h in
    by (same_name zone name) refl (was_not (list_any (same_name name) names) d.0) (once range zone names d.1)
  where
    was_not : (b : Bool) → not b ≡ true → b ≡ false
    was_not true e = cc
    was_not false e = refl

    by : (b : Bool) → same_name zone name ≡ b → list_any (same_name name) names ≡ false
        → once_each range zone names ≡ (if list_any (same_name zone) names then range ∷ [] else [])
        → map (λ name. range) (if b then name ∷ filter (same_name zone) names else filter (same_name zone) names)
        ≡ (if b || list_any (same_name zone) names then range ∷ [] else [])
    by true t none rest = rw (none_pass (same_name zone) names (any_same zone name names t ∙ none)) refl
    by false t none rest = rest

list_found : (zone : List ℕ) (whole : List Known) (k : Known) → is_known k ≡ true → known_of k.range.start whole ≡ Some k
    → filter_map (hit zone whole) (filter (of_key (key_of zone)) (numbers_in k))
    ≡ (if has_zone zone k then k.range ∷ [] else [])
list_found zone whole k good there =
    let s = small k good in
    found_from (hit zone whole) k.range zone k.range.start 0 k.names s.0 (omega (arith, s.1)) (λ i name e.
    subst (λ (m : ℕ). hit zone whole (number_of (key_of name) k.range.start m) ≡ (if same_name zone name then Some k.range else None))
    (omega arith) (one i name e (omega (arith, within k.names i name e, s.1)) s.0))
    ∙ once k.range zone k.names (known_parts k good).3
  where
    one : (i : ℕ) (name : List ℕ) → slice_get k.names i ≡ Some name → i < 256 → k.range.start < 65536
        → hit zone whole (number_of (key_of name) k.range.start i) ≡ (if same_name zone name then Some k.range else None)
    one i name e few low =
        rw (start_in (key_of name) k.range.start i low few, there, nth_in (key_of name) k.range.start i few, e) refl

-- the ranges that the numbers of a key give are those whose lists have the zone
ranges_found : (zone : List ℕ) (whole table : List Known) → list_all is_known table ≡ true → AreFound whole table
    → filter_map (hit zone whole) (filter (of_key (key_of zone)) (flat_map numbers_in table)) ≡ ranges_of zone table
ranges_found zone whole [] each f = refl
ranges_found zone whole (k ∷ table) each f =
    let e = and_parts (is_known k) (list_all is_known table) each in
    let mine = filter (of_key (key_of zone)) (numbers_in k) in
    let others = filter (of_key (key_of zone)) (flat_map numbers_in table) in
    ap (filter_map (hit zone whole)) (filter-append (of_key (key_of zone)) (numbers_in k) (flat_map numbers_in table))
    ∙ filter_map-append (hit zone whole) mine others
    ∙ rw (list_found zone whole k e.0 f.0, ranges_found zone whole table e.1 f.1) (by (has_zone zone k))
  where
    by : (b : Bool) → (if b then k.range ∷ [] else []) ++ ranges_of zone table
        ≡ map (λ k. k.range) (if b then k ∷ filter (has_zone zone) table else filter (has_zone zone) table)
    by true = refl
    by false = refl

-- the ranges of the index's numbers of a zone's key are those whose lists have it
pub cables_found : (zone : List ℕ) (table : List Known) → IsZoneMap table
    → filter_map (hit zone table) (with_key (key_of zone) (index_of table)) ≡ ranges_of zone table
cables_found zone table h =
    ap (filter_map (hit zone table)) (key_found (key_of zone) table h)
    ∙ ranges_found zone table table h.each (each_found 0 table (lists_apart table h))

-- the same with what was read of the table
pub given_cables : (zone : List ℕ) (lists items : List Known) (index numbers : List ℕ) → IsIndexed lists index → items ≡ lists
    → numbers ≡ with_key (key_of zone) index → filter_map (hit zone items) numbers ≡ ranges_of zone lists
given_cables zone lists items index numbers h are found =
    ap (λ (l : List Known). filter_map (hit zone l) numbers) are
    ∙ ap (filter_map (hit zone lists)) (found ∙ ap (with_key (key_of zone)) h.index)
    ∙ cables_found zone lists h.map
