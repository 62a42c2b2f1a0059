-- Lists that are added after all others, and what that keeps.
use Rattle.std.proofs.Common.{List, [], arith, length, nat_le, nat_lt, refl, suc, sym, true, zero, ℕ, ◌&&◌, ◌++◌, ◌-◌, ◌<◌, ◌∷◌, ◌≡◌, ◌≤◌}
use Rattle.std.specs.Prelude.{Some, slice_get}
use Rattle.std.specs.List.{list_all}
use Rattle.std.proofs.lemmas.Bool.Decides.{nat_tests}
use Rattle.std.proofs.lemmas.Bool.{and_parts, ltb-true}
use Rattle.std.proofs.lemmas.List.{length-append}
use Rattle.std.proofs.lemmas.List.Folds.{list_all-append}
use Rattle.std.proofs.Math.Bool.{and_assoc}
use Rattle.std.proofs.Math.Nat.{le-max_right, max-le}
use Rattle.at_base.specs.Range.{Span, is_range}
use Rattle.at_base.specs.Limits.{max_zones}
use Rattle.zip_zones.specs.Zones.{Known, IsZoneMap, are_above, each_once, end_of, has_room, is_known, list_of_least}
use Rattle.zip_zones.proofs.Names.{distinct_fold, not_more}
use Rattle.zip_zones.proofs.Tables.{known_of_parts}

-- the end of the list at the last index
end_at : (low : ℕ) (table : List Known) (n : ℕ) (k : Known) → length table ≡ suc n → slice_get table n ≡ Some k
    → k.range.end ≡ end_of low table
end_at low [] n k e g = cc
end_at low (x ∷ []) zero k e g = cc
end_at low (x ∷ []) (suc n) k e g = absurd (omega (arith, e))
end_at low (x ∷ y ∷ table) zero k e g = absurd (omega (arith, e))
end_at low (x ∷ y ∷ table) (suc n) k e g = end_at x.range.end (y ∷ table) n k (omega (arith, e)) g

-- the end of the last list, if there is one
pub end_found : (low : ℕ) (table : List Known) (k : Known) → slice_get table (length table - 1) ≡ Some k → k.range.end ≡ end_of low table
end_found low [] k e = cc
end_found low (x ∷ table) k e =
    let last : length (x ∷ table) - 1 ≡ length table = omega arith in
    end_at low (x ∷ table) (length table) k refl (rw (← last) e)

-- lists after others are above a network exactly if they are above the end of those
above_append : (low : ℕ) (a b : List Known) → are_above low (a ++ b) ≡ (are_above low a && are_above (end_of low a) b)
above_append low [] b = refl
above_append low (x ∷ a) b =
    rw (above_append x.range.end a b)
    (sym (and_assoc (nat_lt low x.range.start) (are_above x.range.end a) (are_above (end_of x.range.end a) b)))

-- adding a list after the others keeps the map
pub append_map : (table : List Known) (k : Known) → IsZoneMap table → is_known k ≡ true → nat_lt (end_of 0 table) k.range.start ≡ true
    → length table < 200 → IsZoneMap (table ++ k ∷ [])
append_map table k h new past few = record {
  apart = rw (above_append 0 table (k ∷ []), h.apart, past) refl;
  each = rw (list_all-append is_known table (k ∷ []), h.each, new) refl;
  few = omega (arith, length-append table (k ∷ []), few);
}

-- the list with these names is a valid list of a table
pub least_known : (range : Span) (least : ℕ) (names : List (List ℕ)) → is_range range.start range.end ≡ true → least ≤ max_zones
    → length names ≤ max_zones → is_known (list_of_least range least names) ≡ true
least_known range least names valid few within =
    known_of_parts (list_of_least range least names) valid (max-le few (omega (arith, not_more names, within))) (le-max_right least (length
    (each_once names))) (distinct_fold [] names refl)

-- the facts of room for a list
pub room_parts : (least : ℕ) (names : List (List ℕ)) (table : List Known) → has_room least names table ≡ true
    → (least ≤ max_zones) × (length names ≤ max_zones) × (length table < 200)
room_parts least names table h =
    let a = and_parts (nat_le least max_zones && nat_le (length names) max_zones) (nat_lt (length table) 200) h in
    let b = and_parts (nat_le least max_zones) (nat_le (length names) max_zones) a.0 in
    (le_of _ _ b.0, le_of _ _ b.1, ltb-true _ _ a.1)
  where
    le_of : (a b : ℕ) → nat_le a b ≡ true → a ≤ b
    le_of a b t = grind (arith, nat_tests)

-- the lists at the front are a map
pub front_map : (a b : List Known) → IsZoneMap (a ++ b) → IsZoneMap a
front_map a b h = record {
  apart = (and_parts (are_above 0 a) _ (rw (above_append 0 a b) at h.apart)).0;
  each = (and_parts (list_all is_known a) _ (rw (list_all-append is_known a b) at h.each)).0;
  few = omega (arith, length-append a b, h.few);
}

-- the last list of a map starts above the others and is valid, and fewer than 200 others are before it
pub last_parts : (table : List Known) (k : Known) → IsZoneMap (table ++ k ∷ [])
    → (nat_lt (end_of 0 table) k.range.start ≡ true) × (is_known k ≡ true) × (length table < 200)
last_parts table k h =
    let past = (and_parts (are_above 0 table) _ (rw (above_append 0 table (k ∷ [])) at h.apart)).1 in
    let good = (and_parts (list_all is_known table) _ (rw (list_all-append is_known table (k ∷ [])) at h.each)).1 in
    ((and_parts _ true past).0, (and_parts _ true good).0, omega (arith, length-append table (k ∷ []), h.few))
