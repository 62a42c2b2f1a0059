-- Zone lists of a router as zone tables, list by list, and that they are a map.
use Rattle.std.proofs.Common.{◌≡◌, ℕ, suc, ◌+◌, ◌≤◌, Bool, true, false, not, ◌&&◌, ◌||◌, ◌==◌, List, [], ◌∷◌, ◌++◌, length}
use Rattle.std.proofs.Common.{refl, sym, ap, subst, ◌∙◌, arith, nat_lt, nat_le}
use Rattle.std.specs.Prelude.{if◌then◌else◌}
use Rattle.std.specs.List.{list_all}
use Rattle.std.proofs.lemmas.Bool.Decides.{nat_tests}
use Rattle.std.proofs.lemmas.Bool.{and_parts, eqb-true, lt-ltb}
use Rattle.std.proofs.lemmas.List.{append_assoc}
use Rattle.at_base.specs.Limits.{max_lists, max_zones}
use Rattle.at_base.specs.Range.{is_range}
use Rattle.zip_zones.specs.Zones.{Known, IsZoneMap, are_above, are_distinct, each_once, end_of, has_room, is_known, is_past}
use Rattle.zip_zones.specs.Zones.{set_list}
use Rattle.zip_zones.proofs.Names.{distinct_fold, not_more}
use Rattle.zip_zones.proofs.Appended.{front_map, last_parts}
use Rattle.zip_zones.proofs.Tables.{known_of_parts, known_parts}
use Rattle.table_image.specs.declared.zone_list.ZoneList.{ZoneList}
use Rattle.table_image.specs.Bounds.{Every}
use Rattle.image_zones.specs.ZoneMaps.{have_few_zones, have_zone_ranges, is_told, known_of_list, range_of, zone_map}

-- the zone lists have no more names than their limit
abbrev pub AreShort : List ZoneList → Type 0
AreShort lists = Every (λ (l : ZoneList). length l.zones ≤ max_zones) lists

pub short_rest : (l : ZoneList) (lists : List ZoneList) → AreShort (l ∷ lists) → AreShort lists
short_rest l lists h = λ k x e. h (suc k) x e

-- ---- one list

-- a list that is complete or has a zone is one of the table
pub one_told : (l : ZoneList) (lists : List ZoneList) → is_told l ≡ true → zone_map (l ∷ lists) ≡ known_of_list l ∷ zone_map lists
one_told l lists t = rw t refl

-- any other list isn't in the table
pub one_untold : (l : ZoneList) (lists : List ZoneList) → is_told l ≡ false → zone_map (l ∷ lists) ≡ zone_map lists
one_untold l lists t = rw t refl

-- the table of a list and others begins with that of the list
pub zone_map_step : (l : ZoneList) (lists : List ZoneList) → zone_map (l ∷ lists) ≡ zone_map (l ∷ []) ++ zone_map lists
zone_map_step l lists = by_test (is_told l) refl
  where
    by_test : (b : Bool) → is_told l ≡ b → zone_map (l ∷ lists) ≡ zone_map (l ∷ []) ++ zone_map lists
    by_test true t = rw t refl
    by_test false t = rw t refl

-- the least number of zones of a list
abbrev pub least_for : ZoneList → ℕ
least_for l = if l.complete then 0 else length l.zones + 1

-- ---- room

-- a list within the limit fits: it is complete or has fewer names
abbrev pub is_few : ZoneList → Bool
is_few l = l.complete || nat_lt (length l.zones) max_zones

le_test : (a b : ℕ) → a ≤ b → nat_le a b ≡ true
le_test a b le = grind (arith, nat_tests)

next_test : (a b : ℕ) → nat_lt a b ≡ nat_le (a + 1) b
next_test a b = grind (arith, nat_tests)

total_told : (l : ZoneList) → length l.zones ≤ max_zones → is_few l ≡ nat_le (known_of_list l).total max_zones
total_told l few = by_test l.complete
  where
    by_test : (b : Bool) → (b || nat_lt (length l.zones) max_zones)
        ≡ nat_le (if b then set_list (range_of l) l.zones else record {
          range = range_of l;
          total = length l.zones + 1;
          names = each_once l.zones;
        }).total max_zones
    by_test true = sym (le_test (length (each_once l.zones)) max_zones (omega (arith, not_more l.zones, few)))
    by_test false = next_test (length l.zones) max_zones

few_untold : (l : ZoneList) → is_told l ≡ false → is_few l ≡ true
few_untold l t = by_test l.complete t
  where
    no_names : (b : Bool) → (length l.zones == 0) ≡ b → not b ≡ false → nat_lt (length l.zones) max_zones ≡ true
    no_names true e t = rw (eqb-true (length l.zones) 0 e) refl
    no_names false e t = cc

    by_test : (b : Bool) → (b || not (length l.zones == 0)) ≡ false → (b || nat_lt (length l.zones) max_zones) ≡ true
    by_test true t = refl
    by_test false t = no_names (length l.zones == 0) refl t

few_step : (l : ZoneList) (lists : List ZoneList) → length l.zones ≤ max_zones → list_all is_few lists ≡ have_few_zones lists
    → (b : Bool) → is_told l ≡ b → list_all is_few (l ∷ lists) ≡ have_few_zones (l ∷ lists)
few_step l lists few rest true t = rw (t, total_told l few, rest) refl
few_step l lists few rest false t = rw (t, few_untold l t, rest) refl

-- each list fits exactly if the zone table has room for the zones of each
pub all_few : (lists : List ZoneList) → AreShort lists → list_all is_few lists ≡ have_few_zones lists
all_few [] h = refl
all_few (l ∷ lists) h = few_step l lists (h 0 l refl) (all_few lists (short_rest l lists h)) (is_told l) refl

-- the least number of zones of a list that is appended to a table is within the limit
pub least_fits : (table : List Known) (l : ZoneList) → IsZoneMap (table ++ zone_map (l ∷ [])) → is_told l ≡ true → least_for l ≤ max_zones
least_fits table l h t =
    let last : IsZoneMap (table ++ known_of_list l ∷ []) = subst (λ one. IsZoneMap (table ++ one)) (one_told l [] t) h in
    let parts = last_parts table (known_of_list l) last in
    least_few l.complete (known_parts (known_of_list l) parts.1).1
  where
    part : Known
    part = record { range = range_of l; total = length l.zones + 1; names = each_once l.zones }

    least_few : (b : Bool) → (if b then set_list (range_of l) l.zones else part).total ≤ max_zones
        → (if b then 0 else length l.zones + 1) ≤ max_zones
    least_few true h = omega arith
    least_few false h = h

-- a table to which one more list is appended
pub room_for : (table : List Known) (l : ZoneList) → IsZoneMap (table ++ zone_map (l ∷ [])) → is_told l ≡ true → length l.zones ≤ max_zones
    → (is_past (range_of l) table ≡ true) × (has_room (least_for l) l.zones table ≡ true)
room_for table l h t few =
    let last : IsZoneMap (table ++ known_of_list l ∷ []) = subst (λ one. IsZoneMap (table ++ one)) (one_told l [] t) h in
    let parts = last_parts table (known_of_list l) last in
    let past : nat_lt (end_of 0 table) l.start ≡ true = starts l.complete parts.0 in
    let least = le_test (least_for l) max_zones (least_fits table l h t) in
    (past, rw (least, le_test (length l.zones) max_zones few, lt-ltb (length table) max_lists parts.2) refl)
  where
    part : Known
    part = record { range = range_of l; total = length l.zones + 1; names = each_once l.zones }

    starts : (b : Bool) → nat_lt (end_of 0 table) (if b then set_list (range_of l) l.zones else part).range.start ≡ true
        → nat_lt (end_of 0 table) l.start ≡ true
    starts true h = h
    starts false h = h

-- ---- the whole table

known_list : (l : ZoneList) → is_range l.start l.end ≡ true → nat_le (known_of_list l).total max_zones ≡ true → is_known (known_of_list l) ≡ true
known_list l valid few =
    known_of_parts (known_of_list l) (range_there l.complete) (le_of _ _ few) (within l.complete) (distinct l.complete)
  where
    le_of : (a b : ℕ) → nat_le a b ≡ true → a ≤ b
    le_of a b t = grind (arith, nat_tests)

    part : Known
    part = record { range = range_of l; total = length l.zones + 1; names = each_once l.zones }

    range_there : (b : Bool) → is_range (if b then set_list (range_of l) l.zones else part).range.start
        (if b then set_list (range_of l) l.zones else part).range.end ≡ true
    range_there true = valid
    range_there false = valid

    within : (b : Bool) → length (if b then set_list (range_of l) l.zones else part).names
        ≤ (if b then set_list (range_of l) l.zones else part).total
    within true = omega arith
    within false = omega (arith, not_more l.zones)

    distinct : (b : Bool) → are_distinct (if b then set_list (range_of l) l.zones else part).names ≡ true
    distinct true = distinct_fold [] l.zones refl
    distinct false = distinct_fold [] l.zones refl

known_step : (l : ZoneList) (lists : List ZoneList) → is_range l.start l.end ≡ true
    → (list_all (λ k. nat_le k.total max_zones) (zone_map lists) ≡ true → list_all is_known (zone_map lists) ≡ true)
    → list_all (λ k. nat_le k.total max_zones) (zone_map (l ∷ lists)) ≡ true
    → (b : Bool) → is_told l ≡ b → list_all is_known (zone_map (l ∷ lists)) ≡ true
known_step l lists valid rest few true t =
    let both : nat_le (known_of_list l).total max_zones && list_all (λ k. nat_le k.total max_zones) (zone_map lists)
    ≡ true = ap (λ table. list_all (λ (k : Known). nat_le k.total max_zones) table) (sym (one_told l lists t)) ∙ few in
    let f = and_parts (nat_le (known_of_list l).total max_zones) (list_all (λ k. nat_le k.total max_zones) (zone_map lists)) both in
    rw (one_told l lists t, known_list l valid f.0, rest f.1) refl
known_step l lists valid rest few false t =
    let others : list_all (λ k. nat_le k.total max_zones) (zone_map lists) ≡ true =
    ap (λ table. list_all (λ (k : Known). nat_le k.total max_zones) table) (sym (one_untold l lists t)) ∙ few in
    rw (one_untold l lists t) (rest others)

all_known : (lists : List ZoneList) → list_all (λ l. is_range l.start l.end) lists ≡ true
    → list_all (λ k. nat_le k.total max_zones) (zone_map lists) ≡ true → list_all is_known (zone_map lists) ≡ true
all_known [] valid few = refl
all_known (l ∷ lists) valid few =
    let v = and_parts (is_range l.start l.end) (list_all (λ l. is_range l.start l.end) lists) valid in
    known_step l lists v.0 (λ f. all_known lists v.1 f) few (is_told l) refl

few_lists_step : (l : ZoneList) (lists : List ZoneList) → length (zone_map lists) ≤ length lists
    → (b : Bool) → is_told l ≡ b → length (zone_map (l ∷ lists)) ≤ length (l ∷ lists)
few_lists_step l lists rest true t = rw (one_told l lists t) (omega (arith, rest))
few_lists_step l lists rest false t = rw (one_untold l lists t) (omega (arith, rest))

few_lists : (lists : List ZoneList) → length (zone_map lists) ≤ length lists
few_lists [] = omega arith
few_lists (l ∷ lists) = few_lists_step l lists (few_lists lists) (is_told l) refl

-- lists with valid ranges and few zones are a zone table
pub lists_map : (lists : List ZoneList) → have_zone_ranges lists ≡ true → have_few_zones lists ≡ true → length lists ≤ max_lists
    → IsZoneMap (zone_map lists)
lists_map lists ranges few short =
    let r = and_parts (list_all (λ l. is_range l.start l.end) lists) (are_above 0 (zone_map lists)) ranges in
    record { apart = r.1; each = all_known lists r.0 few; few = omega (arith, few_lists lists, short) }

-- the tables of the first lists are maps, if that of all lists is one
pub front_of_lists : (table : List Known) (l : ZoneList) (lists all : List ZoneList) → table ++ zone_map (l ∷ lists) ≡ zone_map all
    → IsZoneMap (zone_map all) → IsZoneMap (table ++ zone_map (l ∷ []))
front_of_lists table l lists all e h =
    let whole : (table ++ zone_map (l ∷ [])) ++ zone_map lists ≡ zone_map all =
    append_assoc table (zone_map (l ∷ [])) (zone_map lists) ∙ ap (λ more. table ++ more) (sym (zone_map_step l lists)) ∙ e in
    front_map (table ++ zone_map (l ∷ [])) (zone_map lists) (subst IsZoneMap (sym whole) h)
