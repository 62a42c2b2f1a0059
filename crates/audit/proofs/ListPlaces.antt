-- The order in which the rule about zone lists tries places.
use Rattle.std.proofs.Common.{◌≡◌, ℕ, zero, suc, ◌<◌, ◌≤◌, inl, inr, Bool, true, false, cond, not, ◌&&◌, ◌||◌, List, [], ◌∷◌, Option}
use Rattle.std.proofs.Common.{Some, None, length, slice_get, find, option_map, refl, sym, ap, ◌∙◌, arith}
use Rattle.std.proofs.lemmas.Bool.{cases_lt}
use Rattle.at_base.specs.declared.error.Place.TheVariants as place
use Rattle.table_image.specs.Internet.{Internet}
use Rattle.table_image.specs.declared.cable.Cable.{Cable}
use Rattle.table_image.specs.declared.zone_list.ZoneList.{ZoneList}
use Rattle.table_image.specs.declared.router.Router.{Router}
use Rattle.audit.specs.Places.{on, index_of}
use Rattle.audit.specs.Firsts.{FirstPlace}
use Rattle.audit.specs.GoodLists.{KeepsLists}
use Rattle.audit.specs.Rules.{c8}
use Rattle.audit.specs.ZoneLists.{has_double, same_zones, is_list_for, bad_list, lacks_list}
use Rattle.audit.proofs.Firsts.{on_past, part_at}
use Rattle.audit.proofs.SameZones.{AreZones}

-- ---- the test of a list

-- the element at the first index is the result of a search
find_at : {X : Type 0} (test : X → Bool) (xs : List X) (k : ℕ) (x : X) → index_of test xs ≡ Some k → slice_get xs k ≡ Some x
    → find test xs ≡ Some x
find_at test [] k x e at = cc
find_at test (y ∷ ys) k x e at =
    elim (test y) as (λ b. cond b (Some zero) (option_map suc (index_of test ys)) ≡ Some k → cond b (Some y) (find test ys) ≡ Some x) [
      | true ↦ λ e. (
          let is : k ≡ zero = cc in
          let here : Some y ≡ Some x = ap (slice_get (y ∷ ys)) (sym is) ∙ at in
          here)
      | false ↦ λ e. later (index_of test ys) e (λ j f there. find_at test ys j x f there)
    ] e
  where
    later : (o : Option ℕ) → option_map suc o ≡ Some k → ((j : ℕ) → o ≡ Some j → slice_get ys j ≡ Some x → find test ys ≡ Some x)
        → find test ys ≡ Some x
    later None e within = cc
    later (Some j) e within = let is : k ≡ suc j = cc in within j refl (ap (slice_get (y ∷ ys)) (sym is) ∙ at)

find_none : {X : Type 0} (test : X → Bool) (xs : List X) → index_of test xs ≡ None → find test xs ≡ None
find_none test [] e = refl
find_none test (y ∷ ys) e =
    elim (test y) as (λ b. cond b (Some zero) (option_map suc (index_of test ys)) ≡ None → cond b (Some y) (find test ys) ≡ None) [
      | true ↦ λ e. cc
      | false ↦ λ e. find_none test ys (inner (index_of test ys) e)
    ] e
  where
    inner : (o : Option ℕ) → option_map suc o ≡ None → o ≡ None
    inner None e = refl
    inner (Some j) e = cc

turned : (d s : Bool) → not (not d && s) ≡ (d || not s)
turned true s = refl
turned false s = refl

-- a complete list with a cable is bad if its names aren't that cable's zones
pub bad_for : (i : Internet) (l : ZoneList) (k : ℕ) (c : Cable) → l.complete ≡ true → index_of (is_list_for l) i.cables ≡ Some k
    → slice_get i.cables k ≡ Some c → not (AreZones c.zones l.zones) ≡ bad_list i l
bad_for i l k c complete for at =
    turned (has_double l.zones) (same_zones l c)
    ∙ (ap (λ (o : Option Cable). has_double l.zones || not (on o (same_zones l))) (sym (find_at (is_list_for l) i.cables k c for at))
    ∙ ap (λ b. not b || has_double l.zones || not (on (find (is_list_for l) i.cables) (same_zones l))) (sym complete))

or_true : (b : Bool) → (b || true) ≡ true
or_true true = refl
or_true false = refl

-- a list without a cable is bad
pub bad_nowhere : (i : Internet) (l : ZoneList) → index_of (is_list_for l) i.cables ≡ None → true ≡ bad_list i l
bad_nowhere i l none =
    sym (ap (λ (o : Option Cable). not l.complete || has_double l.zones || not (on o (same_zones l)))
    (find_none (is_list_for l) i.cables none)
    ∙ or_true (not l.complete || has_double l.zones))

-- a list of a router that doesn't break the rule is good
pub good_list : (i : Internet) (s k : ℕ) (router : Router) (l : ZoneList) → slice_get i.routers s ≡ Some router
    → slice_get router.lists k ≡ Some l → c8 i (place.List (suc s) (suc k)) ≡ false → bad_list i l ≡ false
good_list i s k router l at there kept =
    sym (part_at i.routers s router (λ (router : Router). router.lists) k l (λ router. bad_list i) (bad_list i l) at there refl) ∙ kept

-- ---- the order

-- no router breaks the rule, where n is past the last one
pub no_bad_list : (i : Internet) (n : ℕ) → length i.routers ≤ n → ((s : ℕ) → s < n → KeepsLists i s) → FirstPlace (c8 i) None
no_bad_list i n past each (place.List zero k) = refl
no_bad_list i n past each (place.List (suc s) zero) = refl
no_bad_list i n past each (place.List (suc s) (suc k)) =
    elim (cases_lt s n) [
      | inl lt ↦ (each s lt k).0
      | inr ge ↦ on_past i.routers s (λ router. on (slice_get router.lists k) (bad_list i)) (omega arith)
    ]
no_bad_list i n past each (place.Missing zero k) = refl
no_bad_list i n past each (place.Missing (suc s) zero) = refl
no_bad_list i n past each (place.Missing (suc s) (suc k)) =
    elim (cases_lt s n) [
      | inl lt ↦ (each s lt k).1
      | inr ge ↦ on_past i.routers s (λ router. on (slice_get i.cables k) (lacks_list router)) (omega arith)
    ]
no_bad_list i n past each (place.Row s k) = refl
no_bad_list i n past each (place.Cable k) = refl
no_bad_list i n past each (place.Port r k) = refl
no_bad_list i n past each (place.Node k) = refl
