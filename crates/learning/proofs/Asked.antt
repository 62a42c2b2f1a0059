-- The rows whose lists are asked for are found again by their first networks.
use Rattle.std.proofs.Common.{◌≡◌, ◌∙◌, ℕ, suc, ◌<◌, ◌≤◌, Bool, true, false, not, ◌&&◌, List, [], ◌∷◌, ◌++◌, flat_map}
use Rattle.std.proofs.Common.{length, take, refl, sym, ap, arith, nat_le, nat_lt, if◌then◌else◌}
use Rattle.std.specs.List.{list_all}
use Rattle.std.proofs.lemmas.List.{take_all}
use Rattle.std.proofs.lemmas.Bool.{and_parts, and_from, and_left, and_right, ltb-true, le-leb, lt-leb}
use Rattle.at_base.specs.Range.{is_between}
use Rattle.rtmp.specs.declared.row.Row.{Row}
use Rattle.rtmp.specs.Routes.{IsRouteMap, are_above, is_direct, is_row}
use Rattle.rtmp.specs.States.{is_usable}
use Rattle.rtmp.proofs.Maps.{row_ends}
use Rattle.zip_zones.specs.Zones.{Known, due, is_answered}
use Rattle.learning.specs.declared.query.Query.{Query}
use Rattle.learning.specs.Queries.{is_asked, queries_of, query_about, query_at}

-- the networks are above low
abbrev AreAbove : ℕ → List ℕ → Type 0
AreAbove low [] = Unit {0}
AreAbove low (start ∷ starts) = (low < start) × AreAbove low starts

all_lower : (low high : ℕ) (starts : List ℕ) → low ≤ high → AreAbove high starts → AreAbove low starts
all_lower low high [] le h = tt
all_lower low high (s ∷ starts) le h = (omega (arith, h.0), all_lower low high starts le h.1)

one_above : (low : ℕ) (r : Row) (rows : List Row) (zones : List Known) (asked : Bool)
    → (is_usable r.state && not (is_answered zones r.range)) ≡ asked
    → low < r.range.start → AreAbove low (due rows zones) → AreAbove low (due (r ∷ rows) zones)
one_above low r rows zones true t first rest = rw t (first, rest)
one_above low r rows zones false t first rest = rw t rest

-- the first networks of rows above a network are above it
due_above : (low : ℕ) (rows : List Row) (zones : List Known) → list_all is_row rows ≡ true → are_above low rows ≡ true
    → AreAbove low (due rows zones)
due_above low [] zones each h = tt
due_above low (r ∷ rows) zones each h =
    let apart = and_parts (nat_lt low r.range.start) (are_above r.range.end rows) h in
    let good = and_parts (is_row r) (list_all is_row rows) each in
    let ends = row_ends r good.0 in
    let first : low < r.range.start = ltb-true _ _ apart.0 in
    let rest = due_above r.range.end rows zones good.1 apart.1 in
    one_above low r rows zones (is_usable r.state && not (is_answered zones r.range)) refl first
    (all_lower low r.range.end (due rows zones) (omega (arith, first, ends.1)) rest)

outside : (r : Row) (net : ℕ) → r.range.end < net → (is_usable r.state && is_between r.range.start r.range.end net) ≡ false
outside r net lt =
    let past : nat_le net r.range.end ≡ false = lt-leb _ _ lt in
    and_right _ _ (and_right (nat_le r.range.start net) _ past)

-- a row that ends below a network isn't the network's row
beyond : (r : Row) (rows : List Row) (net : ℕ) → r.range.end < net → query_at (r ∷ rows) net ≡ query_at rows net
beyond r rows net lt = rw (outside r net lt) refl

beyond_all : (r : Row) (rows : List Row) (starts : List ℕ) → AreAbove r.range.end starts
    → flat_map (query_at (r ∷ rows)) starts ≡ flat_map (query_at rows) starts
beyond_all r rows [] h = refl
beyond_all r rows (s ∷ starts) h =
    ap (λ (l : List Query). l ++ flat_map (query_at (r ∷ rows)) starts) (beyond r rows s h.0)
    ∙ ap (λ (l : List Query). query_at rows s ++ l) (beyond_all r rows starts h.1)

-- a usable row is found by its first network
own : (r : Row) (rows : List Row) → is_row r ≡ true → is_usable r.state ≡ true
    → query_at (r ∷ rows) r.range.start ≡ (if is_direct r then [] else query_about r ∷ [])
own r rows good usable =
    let ends = row_ends r good in
    let low : nat_le r.range.start r.range.start ≡ true = le-leb _ _ (omega arith) in
    let high : nat_le r.range.start r.range.end ≡ true = le-leb _ _ ends.1 in
    rw (usable, low, high) refl

due_one : (r : Row) (rows : List Row) (zones : List Known) (due_too : Bool)
    → (is_usable r.state && not (is_answered zones r.range)) ≡ due_too
    → due (r ∷ rows) zones ≡ (if due_too then r.range.start ∷ due rows zones else due rows zones)
due_one r rows zones true t = rw t refl
due_one r rows zones false t = rw t refl

asked_one : (r : Row) (rows : List Row) (zones : List Known) (asked_too : Bool) → is_asked zones r ≡ asked_too
    → queries_of (r ∷ rows) zones ≡ (if asked_too then query_about r ∷ queries_of rows zones else queries_of rows zones)
asked_one r rows zones true t = rw t refl
asked_one r rows zones false t = rw t refl

-- one more row: its network is due if it is usable and has no complete list, and asked for if it isn't direct either
one_asked : (r : Row) (rows : List Row) (zones : List Known) (usable answered direct : Bool) → is_usable r.state ≡ usable
    → is_answered zones r.range ≡ answered → is_direct r ≡ direct
    → (usable ≡ true → query_at (r ∷ rows) r.range.start ≡ (if direct then [] else query_about r ∷ []))
    → flat_map (query_at (r ∷ rows)) (due rows zones) ≡ queries_of rows zones
    → flat_map (query_at (r ∷ rows)) (due (r ∷ rows) zones) ≡ queries_of (r ∷ rows) zones
one_asked r rows zones false answered direct t u v found rest =
    let unasked : is_asked zones r ≡ false =
    and_left (is_usable r.state && not (is_direct r)) (not (is_answered zones r.range))
    (and_left (is_usable r.state) (not (is_direct r)) t) in
    ap (flat_map (query_at (r ∷ rows))) (due_one r rows zones false (and_left _ _ t)) ∙ rest
    ∙ sym (asked_one r rows zones false unasked)
one_asked r rows zones true true direct t u v found rest =
    let met : not (is_answered zones r.range) ≡ false = ap not u in
    let unasked : is_asked zones r ≡ false =
    and_right (is_usable r.state && not (is_direct r)) (not (is_answered zones r.range)) met in
    ap (flat_map (query_at (r ∷ rows))) (due_one r rows zones false (and_right _ _ met)) ∙ rest
    ∙ sym (asked_one r rows zones false unasked)
one_asked r rows zones true false true t u v found rest =
    let unasked : is_asked zones r ≡ false =
    and_left (is_usable r.state && not (is_direct r)) (not (is_answered zones r.range))
    (and_right (is_usable r.state) (not (is_direct r)) (ap not v)) in
    ap (flat_map (query_at (r ∷ rows))) (due_one r rows zones true (and_from _ _ t (ap not u)))
    ∙ ap (λ (l : List Query). l ++ flat_map (query_at (r ∷ rows)) (due rows zones)) (found refl) ∙ rest
    ∙ sym (asked_one r rows zones false unasked)
one_asked r rows zones true false false t u v found rest =
    let asked_too : is_asked zones r ≡ true =
    and_from (is_usable r.state && not (is_direct r)) (not (is_answered zones r.range))
    (and_from (is_usable r.state) (not (is_direct r)) t (ap not v)) (ap not u) in
    ap (flat_map (query_at (r ∷ rows))) (due_one r rows zones true (and_from _ _ t (ap not u)))
    ∙ ap (λ (l : List Query). l ++ flat_map (query_at (r ∷ rows)) (due rows zones)) (found refl)
    ∙ ap (λ (l : List Query). query_about r ∷ l) rest
    ∙ sym (asked_one r rows zones true asked_too)

asked_above : (low : ℕ) (rows : List Row) (zones : List Known) → list_all is_row rows ≡ true → are_above low rows ≡ true
    → flat_map (query_at rows) (due rows zones) ≡ queries_of rows zones
asked_above low [] zones each h = refl
asked_above low (r ∷ rows) zones each h =
    let apart = and_parts (nat_lt low r.range.start) (are_above r.range.end rows) h in
    let good = and_parts (is_row r) (list_all is_row rows) each in
    one_asked r rows zones (is_usable r.state) (is_answered zones r.range) (is_direct r) refl refl refl (own r rows good.0)
    (beyond_all r rows (due rows zones) (due_above r.range.end rows zones good.1 apart.1)
    ∙ asked_above r.range.end rows zones good.1 apart.1)

-- the rows found by the networks that are due are those whose lists are asked for
pub asked : (rows : List Row) (zones : List Known) (starts : List ℕ) (i : ℕ) (queries : List Query) → IsRouteMap rows
    → starts ≡ due rows zones → length starts ≤ i → queries ≡ flat_map (query_at rows) (take i starts)
    → queries ≡ queries_of rows zones
asked rows zones starts i queries map are past found =
    found ∙ ap (flat_map (query_at rows)) (take_all i starts past ∙ are) ∙ asked_above 0 rows zones map.each map.apart

asked_within : (rows : List Row) (zones : List Known) → length (queries_of rows zones) ≤ length rows
asked_within [] zones = omega arith
asked_within (r ∷ rows) zones = by (is_asked zones r) refl (asked_within rows zones)
  where
    by : (asked_too : Bool) → is_asked zones r ≡ asked_too → length (queries_of rows zones) ≤ length rows
        → length (queries_of (r ∷ rows) zones) ≤ suc (length rows)
    by true t rest = rw (asked_one r rows zones true t) (omega arith)
    by false t rest = rw (asked_one r rows zones false t) (omega arith)

-- the number of queries is at most the number of rows
pub asked_few : (rows : List Row) (zones : List Known) (queries : List Query) → IsRouteMap rows → queries ≡ queries_of rows zones
    → length queries ≤ 200
asked_few rows zones queries map is = let within = asked_within rows zones in rw is (omega (arith, within, map.few))
