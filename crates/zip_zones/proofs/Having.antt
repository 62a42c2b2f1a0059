-- Whether a list has a zone, by the index of its table.
use Rattle.std.proofs.Common.{◌≡◌, ℕ, suc, ◌+◌, ◌%◌, ◌<◌, ◌≤◌, Bool, true, false, ◌&&◌, ◌||◌, List, [], ◌∷◌, ◌++◌, length}
use Rattle.std.proofs.Common.{filter, flat_map, Some, slice_get, refl, sym, ap, ◌∙◌, arith, nat_lt, nat_le, subst}
use Rattle.std.proofs.Common.{if◌then◌else◌, true≢false, append-nil}
use Rattle.std.specs.Prelude.{find}
use Rattle.std.specs.List.{list_all, list_any}
use Rattle.std.proofs.lemmas.Bool.{and_parts, lt-ltb, le-leb, leb-true, ltb-true}
use Rattle.std.proofs.lemmas.List.Elements.{filter-append}
use Rattle.at_base.specs.Spans.{AreApart}
use Rattle.at_base.specs.Text.{same_name}
use Rattle.at_base.specs.Numbers.{in_order, with_number}
use Rattle.at_base.proofs.Numbers.{filter_in_order, with_cases}
use Rattle.at_base.specs.Limits.{max_zones}
use Rattle.zip_zones.specs.Zones.{Known, IsZoneMap, has_zone, is_known}
use Rattle.zip_zones.specs.Indexing.{IsIndexed, any_named, index_of, is_named, key_of, number_of, numbers_from, numbers_in, with_start}
use Rattle.zip_zones.proofs.Tables.{lists_apart}
use Rattle.zip_zones.proofs.Queries.{nth_in, same_keys, small, within}

-- the test that a number is of a name with a key in the list that starts at a network
abbrev of_list : ℕ → ℕ → ℕ → Bool
of_list z start n = nat_le (number_of z start 0) n && nat_lt n (number_of z (suc start) 0)

list_is : (z s key start nth : ℕ) → s < 65536 → start < 65536 → nth < 256 → of_list z s (number_of key start nth) ≡ true
    → (key ≡ z) × (start ≡ s)
list_is z s key start nth few low n t =
    let h = and_parts (nat_le (number_of z s 0) (number_of key start nth)) (nat_lt (number_of key start nth) (number_of z (suc s) 0)) t in
    let from = leb-true _ _ h.0 in
    let to = ltb-true _ _ h.1 in
    (omega (arith, few, low, n, from, to), omega (arith, few, low, n, from, to))

is_list : (key start nth : ℕ) → nth < 256 → of_list key start (number_of key start nth) ≡ true
is_list key start nth n =
    let low : number_of key start 0 ≤ number_of key start nth = omega arith in
    let high : number_of key start nth < number_of key (suc start) 0 = omega (arith, n) in
    rw (le-leb _ _ low, lt-ltb _ _ high) refl

none_elsewhere : (z s start nth : ℕ) (names : List (List ℕ)) → s < 65536 → start < 65536 → nth + length names ≤ 256 → (start ≡ s → ⊥)
    → filter (of_list z s) (numbers_from start nth names) ≡ []
none_elsewhere z s start nth [] few low n other = refl
none_elsewhere z s start nth (name ∷ names) few low n other =
    by (of_list z s (number_of (key_of name) start nth)) refl (none_elsewhere z s start (suc nth) names few low (omega (arith, n)) other)
  where
    by : (b : Bool) → of_list z s (number_of (key_of name) start nth) ≡ b → filter (of_list z s) (numbers_from start (suc nth) names) ≡ []
        → (if b then number_of (key_of name) start nth ∷ filter (of_list z s) (numbers_from start (suc nth) names)
        else filter (of_list z s) (numbers_from start (suc nth) names)) ≡ []
    by true t rest = absurd (other (list_is z s (key_of name) start nth few low (omega (arith, n)) t).1)
    by false t rest = rest

none_later : (z s high : ℕ) (table : List Known) → s < 65536 → s ≤ high → AreApart (λ k. k.range) high table
    → list_all is_known table ≡ true → filter (of_list z s) (flat_map numbers_in table) ≡ []
none_later z s high [] few le h each = refl
none_later z s high (k ∷ table) few le h each =
    let e = and_parts (is_known k) (list_all is_known table) each in
    let l = small k e.0 in
    rw (
      filter-append (of_list z s) (numbers_in k) (flat_map numbers_in table),
      none_elsewhere z s k.range.start 0 k.names few l.0 (omega (arith, l.1)) (λ same. omega (arith, same, le, h.0)),
    )
    (none_later z s k.range.end table few (omega (arith, le, h.0, h.1)) h.2 e.1)

-- the index's numbers of a list are the list's
list_numbers : (p : Known → Bool) (z low : ℕ) (table : List Known) (k : Known) → AreApart (λ k. k.range) low table
    → list_all is_known table ≡ true → find p table ≡ Some k
    → (low < k.range.start) × (k.range.start < 65536) × (length k.names ≤ max_zones)
    × (filter (of_list z k.range.start) (flat_map numbers_in table) ≡ filter (of_list z k.range.start) (numbers_in k))
list_numbers p z low [] k h each found = cc
list_numbers p z low (a ∷ table) k h each found =
    let e = and_parts (is_known a) (list_all is_known table) each in
    by (p a) found (small a e.0) (list_numbers p z a.range.end table k h.2 e.1) e.1
  where
    by : (b : Bool) → (if b then Some a else find p table) ≡ Some k → (a.range.start < 65536) × (length a.names ≤ max_zones)
        → (find p table ≡ Some k → (a.range.end < k.range.start) × (k.range.start < 65536) × (length k.names ≤ max_zones)
        × (filter (of_list z k.range.start) (flat_map numbers_in table) ≡ filter (of_list z k.range.start) (numbers_in k)))
        → list_all is_known table ≡ true
        → (low < k.range.start) × (k.range.start < 65536) × (length k.names ≤ max_zones)
        × (filter (of_list z k.range.start) (numbers_in a ++ flat_map numbers_in table) ≡ filter (of_list z k.range.start) (numbers_in k))
    by true f s rest others =
        let same : a ≡ k = cc in
        subst (λ (k : Known). (low < k.range.start) × (k.range.start < 65536) × (length k.names ≤ max_zones)
        × (filter (of_list z k.range.start) (numbers_in a ++ flat_map numbers_in table) ≡ filter (of_list z k.range.start) (numbers_in k)))
        same (
          h.0,
          s.0,
          s.1,
          filter-append (of_list z a.range.start) (numbers_in a) (flat_map numbers_in table)
              ∙ ap (λ (l : List ℕ). filter (of_list z a.range.start) (numbers_in a) ++ l)
              (none_later z a.range.start a.range.end table s.0 h.1 h.2 others)
              ∙ append-nil (filter (of_list z a.range.start) (numbers_in a)),
        )
    by false f s rest others =
        let r = rest f in (
          omega (arith, h.0, h.1, r.0),
          r.1,
          r.2,
          filter-append (of_list z k.range.start) (numbers_in a) (flat_map numbers_in table)
              ∙ ap (λ (l : List ℕ). l ++ filter (of_list z k.range.start) (flat_map numbers_in table))
              (none_elsewhere z k.range.start a.range.start 0 a.names r.1 s.0 (omega (arith, s.1)) (λ same. omega (arith, same, h.1, r.0)))
              ∙ r.3,
        )

any_with : (f : ℕ → Bool) (n : ℕ) (index : List ℕ) → list_any f (with_number n index) ≡ (f n || list_any f index)
any_with f n [] = refl
any_with f n (a ∷ index) =
    with_cases (λ l. list_any f l ≡ (f n || (f a || list_any f index))) n a index
    (λ lt. rw (any_with f n index) (turn (f a) (f n) (list_any f index))) (λ le. refl)
  where
    turn : (x y z : Bool) → (x || (y || z)) ≡ (y || (x || z))
    turn true true z = refl
    turn true false z = refl
    turn false y z = refl

any_in_order : (f : ℕ → Bool) (numbers : List ℕ) → list_any f (in_order numbers) ≡ list_any f numbers
any_in_order f [] = refl
any_in_order f (n ∷ numbers) = any_with f n (in_order numbers) ∙ ap (λ (b : Bool). f n || b) (any_in_order f numbers)

any_from : (f : ℕ → Bool) (zone : List ℕ) (start nth : ℕ) (names : List (List ℕ)) → start < 65536 → nth + length names ≤ 256
    → ((i : ℕ) (name : List ℕ) → slice_get names i ≡ Some name → f (number_of (key_of name) start (nth + i)) ≡ same_name zone name)
    → list_any f (filter (of_list (key_of zone) start) (numbers_from start nth names)) ≡ list_any (same_name zone) names
any_from f zone start nth [] s few agrees = refl
any_from f zone start nth (name ∷ names) s few agrees =
    by (same_name zone name) (of_list (key_of zone) start (number_of (key_of name) start nth)) refl refl first
    (any_from f zone start (suc nth) names s (omega (arith, few)) later)
  where
    first : f (number_of (key_of name) start nth) ≡ same_name zone name
    first = subst (λ (m : ℕ). f (number_of (key_of name) start m) ≡ same_name zone name) (omega arith) (agrees 0 name refl)

    later : (i : ℕ) (n : List ℕ) → slice_get names i ≡ Some n → f (number_of (key_of n) start (suc nth + i)) ≡ same_name zone n
    later i n e = subst (λ (m : ℕ). f (number_of (key_of n) start m) ≡ same_name zone n) (omega arith) (agrees (suc i) n e)

    by : (b t : Bool) → same_name zone name ≡ b → of_list (key_of zone) start (number_of (key_of name) start nth) ≡ t
        → f (number_of (key_of name) start nth) ≡ b
        → list_any f (filter (of_list (key_of zone) start) (numbers_from start (suc nth) names)) ≡ list_any (same_name zone) names
        → list_any f (if t then number_of (key_of name) start nth ∷ filter (of_list (key_of zone) start) (numbers_from start (suc nth) names)
        else filter (of_list (key_of zone) start) (numbers_from start (suc nth) names)) ≡ (b || list_any (same_name zone) names)
    by true true e u is rest = rw is refl
    by true false e u is rest =
        let one : of_list (key_of zone) start (number_of (key_of name) start nth) ≡ true =
        rw (same_keys zone name e) (is_list (key_of name) start nth (omega (arith, few))) in
        absurd (true≢false (sym one ∙ u))
    by false true e u is rest = rw is rest
    by false false e u is rest = rest

-- the names of a list that its numbers give are the list's
pub named_found : (zone : List ℕ) (start : ℕ) (names : List (List ℕ)) → start < 65536 → length names ≤ max_zones
    → any_named zone names (filter (of_list (key_of zone) start) (numbers_from start 0 names)) ≡ list_any (same_name zone) names
named_found zone start names s few =
    any_from (λ n. is_named zone (n % 256) names) zone start 0 names s (omega (arith, few)) (λ i name e.
    subst (λ (m : ℕ). is_named zone (number_of (key_of name) start m % 256) names ≡ same_name zone name)
    (omega arith) (one i name e (omega (arith, within names i name e, few))))
  where
    one : (i : ℕ) (name : List ℕ) → slice_get names i ≡ Some name → i < 256
        → is_named zone (number_of (key_of name) start i % 256) names ≡ same_name zone name
    one i name e n = rw (nth_in (key_of name) start i n, e) refl

-- a list alone has a zone exactly if the numbers of its names give it
pub alone_has : (zone : List ℕ) (start : ℕ) (names : List (List ℕ)) → start < 65536 → length names ≤ max_zones
    → any_named zone names (with_start (key_of zone) start (in_order (numbers_from start 0 names))) ≡ list_any (same_name zone) names
alone_has zone start names s few =
    let numbers = numbers_from start 0 names in
    ap (any_named zone names) (filter_in_order (of_list (key_of zone) start) numbers)
    ∙ any_in_order (λ n. is_named zone (n % 256) names) (filter (of_list (key_of zone) start) numbers)
    ∙ named_found zone start names s few

-- a list of a table has a zone exactly if the index's numbers give it
pub index_has : (zone : List ℕ) (p : Known → Bool) (table : List Known) (k : Known) → IsZoneMap table → find p table ≡ Some k
    → any_named zone k.names (with_start (key_of zone) k.range.start (index_of table)) ≡ has_zone zone k
index_has zone p table k h found =
    let numbers = flat_map numbers_in table in
    let l = list_numbers p (key_of zone) 0 table k (lists_apart table h) h.each found in
    ap (any_named zone k.names) (filter_in_order (of_list (key_of zone) k.range.start) numbers)
    ∙ any_in_order (λ n. is_named zone (n % 256) k.names) (filter (of_list (key_of zone) k.range.start) numbers)
    ∙ ap (any_named zone k.names) l.3
    ∙ named_found zone k.range.start k.names l.1 l.2

-- the same of a list that was found, with what was read of it
pub given_has : (p : Known → Bool) (table : List Known) (index : List ℕ) (k : Known) (zone : List ℕ) (names : List (List ℕ)) (start : ℕ)
    (numbers : List ℕ) → IsIndexed table index → find p table ≡ Some k → names ≡ k.names → start ≡ k.range.start → numbers ≡ index
    → any_named zone names (with_start (key_of zone) start numbers) ≡ has_zone zone k
given_has p table index k zone names start numbers h found of from are =
    ap (λ (n : List (List ℕ)). any_named zone n (with_start (key_of zone) start numbers)) of
    ∙ ap (λ (s : ℕ). any_named zone k.names (with_start (key_of zone) s numbers)) from
    ∙ ap (λ (i : List ℕ). any_named zone k.names (with_start (key_of zone) k.range.start i)) (are ∙ h.index)
    ∙ index_has zone p table k h.map found
