-- If the rule about zone lists is kept, each router's zone table agrees with the cables.
use Rattle.std.proofs.Common.{◌≡◌, ℕ, zero, suc, ◌+◌, ◌==◌, ◌<◌, inl, inr, Bool, true, false, not, ◌||◌, List, [], ◌∷◌, ◌++◌, length}
use Rattle.std.proofs.Common.{None, Option, Some, ap, arith, eqb-true, filter, fold, if◌then◌else◌, map, refl, slice_get, subst, sym, ◌∙◌}
use Rattle.std.specs.List.{list_any, list_all}
use Rattle.std.proofs.lemmas.Bool.{and_parts, or_parts, not-false, cases_order}
use Rattle.at_base.specs.Range.{Span}
use Rattle.at_base.specs.Text.{same_name, SameName}
use Rattle.at_base.proofs.Texts.{same_name_is, is_same_name}
use Rattle.at_base.specs.declared.error.Place.TheVariants as place
use Rattle.table_image.specs.Internet.{Internet}
use Rattle.table_image.specs.Bounds.{IsBounded, IsWithinLimits}
use Rattle.image_zones.specs.ZoneMaps.{known_of_list, is_told, range_of, zone_map}
use Rattle.table_image.specs.declared.cable.Cable.{Cable}
use Rattle.table_image.specs.declared.zone_list.ZoneList.{ZoneList}
use Rattle.table_image.specs.declared.router.Router.{Router}
use Rattle.zip_zones.specs.Zones.{Known, each_once, has_zone, ranges_of, set_list, with_name}
use Rattle.audit.specs.Firsts.{FirstPlace}
use Rattle.audit.specs.Places.{on}
use Rattle.audit.specs.Rules.{c1, c8, Passes}
use Rattle.audit.specs.ZoneLists.{are_among, bad_list, cable_of_list, has_double, is_list_for, lacks_list, same_zones, ranges_with}
use Rattle.audit.specs.ZoneLists.{IsListOf, KnowsZones, ZonesAgree}
use Rattle.audit.proofs.CableOrder.{good_at, rising}
use Rattle.audit.proofs.Finding.{any_at, any_from}
use Rattle.audit.proofs.SideBySide.{AreSideBySide, and_so, beside, same_numbers}
use Rattle.audit.proofs.WalkFacts.{same_bool}
use Rattle.audit.proofs.WalkLists.{At, at_one, find_at}

-- ---- names, ignoring case

-- if all elements pass, each element does
all_at : {X : Type 0} (t : X → Bool) (xs : List X) (k : ℕ) (x : X) → list_all t xs ≡ true → At xs k x → t x ≡ true
all_at t [] k x e at = cc
all_at t (y ∷ ys) zero x e at = let same : y ≡ x = cc in ap t (sym same) ∙ (and_parts (t y) (list_all t ys) e).0
all_at t (y ∷ ys) (suc k) x e at = all_at t ys k x (and_parts (t y) (list_all t ys) e).1 at

-- a zone among names that are all among others is among those
among : (names zones : List (List ℕ)) (z : List ℕ) → are_among names zones ≡ true → list_any (same_name z) names ≡ true
    → list_any (same_name z) zones ≡ true
among names zones z all any =
    let w = any_at (same_name z) names any in
    let v = any_at (same_name w.1) zones (all_at (λ name. list_any (same_name name) zones) names w.0 w.1 all w.2) in
    let same : SameName z v.1 = same_name_is z w.1 w.3 ∙ same_name_is w.1 v.1 v.3 in
    any_from (same_name z) zones v.0 v.1 v.2 (is_same_name z v.1 same)

any_last : {X : Type 0} (t : X → Bool) (xs : List X) (x : X) → list_any t (xs ++ x ∷ []) ≡ (list_any t xs || t x)
any_last t [] x = last (t x)
  where
    last : (b : Bool) → (b || false) ≡ b
    last true = refl
    last false = refl
any_last t (y ∷ ys) x = more (t y) (any_last t ys x)
  where
    more : (b : Bool) → list_any t (ys ++ x ∷ []) ≡ (list_any t ys || t x) → (b || list_any t (ys ++ x ∷ [])) ≡
        ((b || list_any t ys) || t x)
    more true e = refl
    more false e = e

-- a name that is added to others, unless it is among them, is among them
any_with : (z : List ℕ) (names : List (List ℕ)) (name : List ℕ)
    → list_any (same_name z) (with_name names name) ≡ (list_any (same_name z) names || same_name z name)
any_with z names name = by (list_any (same_name name) names) refl
  where
    by : (b : Bool) → list_any (same_name name) names ≡ b
        → list_any (same_name z) (if b then names else names ++ name ∷ []) ≡ (list_any (same_name z) names || same_name z name)
    by false e = any_last (same_name z) names name
    by true e = same_bool _ _ (λ h. ap (λ b. b || same_name z name) h) (λ h. there (list_any (same_name z) names) refl h)
      where
        there : (b : Bool) → list_any (same_name z) names ≡ b → (b || same_name z name) ≡ true → list_any (same_name z) names ≡ true
        there true a h = a
        there false a h =
            let w = any_at (same_name name) names e in
            let same : SameName z w.1 = same_name_is z name h ∙ same_name_is name w.1 w.3 in
            any_from (same_name z) names w.0 w.1 w.2 (is_same_name z w.1 same)

or_assoc : (a b c : Bool) → ((a || b) || c) ≡ (a || (b || c))
or_assoc true b c = refl
or_assoc false b c = refl

any_fold : (z : List ℕ) (names more : List (List ℕ))
    → list_any (same_name z) (fold with_name names more) ≡ (list_any (same_name z) names || list_any (same_name z) more)
any_fold z names [] = none (list_any (same_name z) names)
  where
    none : (b : Bool) → b ≡ (b || false)
    none true = refl
    none false = refl
any_fold z names (m ∷ more) =
    any_fold z (with_name names m) more
    ∙ (ap (λ b. b || list_any (same_name z) more) (any_with z names m)
    ∙ or_assoc (list_any (same_name z) names) (same_name z m) (list_any (same_name z) more))

-- names taken once each are the same names
pub any_once : (z : List ℕ) (names : List (List ℕ)) → list_any (same_name z) (each_once names) ≡ list_any (same_name z) names
any_once z names = any_fold z [] names

-- ---- a router's lists and the cables

-- the list of a zone table for a complete list has its names
known_complete : (l : ZoneList) → l.complete ≡ true → known_of_list l ≡ set_list (range_of l) l.zones
known_complete l e =
    ap (λ b. if b then set_list (range_of l) l.zones
    else record { range = range_of l; total = length l.zones + 1; names = each_once l.zones }) e

module _ (i : Internet) (cables : FirstPlace (c1 i) None) (router : Router) (rise : IsWithinLimits (length i.cables) router)
    (good : (k : ℕ) (l : ZoneList) → At router.lists k l → bad_list i l ≡ false)
    (covered : (j : ℕ) (c : Cable) → At i.cables j c → lacks_list router c ≡ false) where
  -- a list that isn't bad is for a cable
  its_cable : (l : ZoneList) (o : Option Cable) → cable_of_list i l ≡ o → l.complete ≡ true → on o (same_zones l) ≡ true
      → (j : ℕ) × (c : Cable) × At i.cables j c × IsListOf l c
  its_cable l None e full h = cc
  its_cable l (Some c) e full h =
      let w = find_at (is_list_for l) i.cables c e in
      let ends = and_parts _ _ w.2 in
      let both = and_parts (are_among l.zones c.zones) (are_among c.zones l.zones) h in (
        w.0,
        c,
        w.1,
        record {
          complete = full;
          start = eqb-true l.start c.start ends.0;
          end = eqb-true l.end c.end ends.1;
          zones =
              λ z. same_bool _ _ (among l.zones c.zones z both.0) (among c.zones l.zones z both.1);
        },
      )

  of_cable : (k : ℕ) (l : ZoneList) → At router.lists k l → (j : ℕ) × (c : Cable) × At i.cables j c × IsListOf l c
  of_cable k l at =
      let first = or_parts (not l.complete || has_double l.zones) (not (on (cable_of_list i l) (same_zones l))) (good k l at) in
      let full = not-false l.complete (or_parts (not l.complete) (has_double l.zones) first.0).0 in
      its_cable l (cable_of_list i l) refl full (not-false (on (cable_of_list i l) (same_zones l)) first.1)

  of_list : (j : ℕ) (c : Cable) → At i.cables j c → (k : ℕ) × (l : ZoneList) × At router.lists k l × (l.start ≡ c.start)
  of_list j c at =
      let any = not-false (list_any (λ l. is_list_for l c) router.lists) (covered j c at) in
      let w = any_at (λ l. is_list_for l c) router.lists any in
      let ends = and_parts _ _ w.3 in
      (w.0, w.1, w.2, eqb-true w.1.start c.start ends.0)

  starts_rise : (j k : ℕ) (a b : Cable) → At i.cables j a → At i.cables k b → j < k → a.start < b.start
  starts_rise j k a b at_j at_k lt =
      let apart = rising i cables k j a b at_j at_k lt in
      let up = (good_at i j a cables at_j).up in
      omega (arith, apart, up)

  -- cables with the same start are one
  one_cable : (j k : ℕ) (a b : Cable) → At i.cables j a → At i.cables k b → a.start ≡ b.start → a ≡ b
  one_cable j k a b at_j at_k e =
      elim (cases_order j k) as (λ _. a ≡ b) [
        | inl same ↦ at_one i.cables k a b (ap (slice_get i.cables) (sym same) ∙ at_j) at_k
        | inr (inl lower) ↦ let h = starts_rise j k a b at_j at_k lower in absurd (omega (arith, h, e))
        | inr (inr above) ↦ let h = starts_rise k j b a at_k at_j above in absurd (omega (arith, h, e))
      ]

  -- each list is that of the cable with its number
  pub side_by_side : AreSideBySide IsListOf router.lists i.cables
  side_by_side =
      and_so (λ l c. l.start ≡ c.start) IsListOf router.lists i.cables
      (same_numbers (λ l. l.start) (λ c. c.start) router.lists i.cables rise.lists_rising starts_rise
      (λ j l at. let w = of_cable j l at in (w.0, w.1, w.2, w.3.start))
      of_list)
      (λ j l c at_l at_c e.
      let w = of_cable j l at_l in
      subst (IsListOf l) (one_cable w.0 j w.1 c w.2 at_c (sym w.3.start ∙ e)) w.3)

-- ---- the zone table

-- the ranges of the lists that have the zone are those of the cables that have it
same_ranges : (z : List ℕ) (lists : List ZoneList) (cables : List Cable) → AreSideBySide IsListOf lists cables
    → ranges_of z (zone_map lists) ≡ ranges_with z cables
same_ranges z [] [] zs = refl
same_ranges z [] (c ∷ cs) zs = absurd zs
same_ranges z (l ∷ ls) [] zs = absurd zs
same_ranges z (l ∷ ls) (c ∷ cs) zs =
    let rest = same_ranges z ls cs zs.1 in
    let told : is_told l ≡ true = ap (λ b. b || not (length l.zones == 0)) zs.0.complete in
    let range : (known_of_list l).range ≡ record { start = c.start; end = c.end } = one_range l c zs.0 in
    let has : has_zone z (known_of_list l) ≡ list_any (same_name z) c.zones = one_zone l c zs.0 in
    one told range has rest
  where
    one_range : (l : ZoneList) (c : Cable) → IsListOf l c → (known_of_list l).range ≡ record { start = c.start; end = c.end }
    one_range l c is = ap (λ (k : Known). k.range) (known_complete l is.complete) ∙ rw (is.start, is.end) refl

    one_zone : (l : ZoneList) (c : Cable) → IsListOf l c → has_zone z (known_of_list l) ≡ list_any (same_name z) c.zones
    one_zone l c is = ap (has_zone z) (known_complete l is.complete) ∙ (any_once z l.zones ∙ is.zones z)

    one : is_told l ≡ true → (known_of_list l).range ≡ record { start = c.start; end = c.end }
        → has_zone z (known_of_list l) ≡ list_any (same_name z) c.zones → ranges_of z (zone_map ls) ≡ ranges_with z cs
        → ranges_of z (zone_map (l ∷ ls)) ≡ ranges_with z (c ∷ cs)
    one told range has rest =
        ap (λ b. ranges_of z (map known_of_list (if b then l ∷ filter is_told ls else filter is_told ls))) told
        ∙ (ap (λ b. map (λ k. k.range) (if b then known_of_list l ∷ filter (has_zone z) (zone_map ls) else filter (has_zone z)
        (zone_map ls))) has
        ∙ by (list_any (same_name z) c.zones))
      where
        by : (b : Bool) → map (λ k. k.range) (if b then known_of_list l ∷ filter (has_zone z) (zone_map ls) else filter (has_zone z)
            (zone_map ls))
            ≡ map (λ (c : Cable). record { start = c.start; end = c.end })
            (if b then c ∷ filter (λ c. list_any (same_name z) c.zones) cs else filter (λ c. list_any (same_name z) c.zones) cs)
        by true = ap (λ (s : Span). s ∷ ranges_of z (zone_map ls)) range ∙ ap (λ ss. record { start = c.start; end = c.end } ∷ ss) rest
        by false = rest

-- the zones known to a router with such lists
pub knows : (i : Internet) (router : Router) → AreSideBySide IsListOf router.lists i.cables → KnowsZones i router
knows i router zs = record {
  listing = λ z. same_ranges z router.lists i.cables zs;
  same =
      λ k l at. let w = beside IsListOf router.lists i.cables zs k l at in (w.0, w.1, w.2);
}

-- if all rules are kept, zone lists agree
pub zones_agree : (i : Internet) → Passes i → IsBounded i → ZonesAgree i
zones_agree i ok bounded r router known = knows i router (side_by_side i cables router (bounded.each r router known) good covered)
  where
    cables : FirstPlace (c1 i) None
    cables = ok 1

    good : (k : ℕ) (l : ZoneList) → At router.lists k l → bad_list i l ≡ false
    good k l at =
        let here : c8 i (place.List (suc r) (suc k)) ≡ bad_list i l =
        ap (λ o. on o (λ router. on (slice_get router.lists k) (bad_list i))) known ∙ ap (λ o. on o (bad_list i)) at in
        sym here ∙ ok 8 (place.List (suc r) (suc k))

    covered : (j : ℕ) (c : Cable) → At i.cables j c → lacks_list router c ≡ false
    covered j c at =
        let here : c8 i (place.Missing (suc r) (suc j)) ≡ lacks_list router c =
        ap (λ o. on o (λ router. on (slice_get i.cables j) (lacks_list router))) known ∙ ap (λ o. on o (lacks_list router)) at in
        sym here ∙ ok 8 (place.Missing (suc r) (suc j))
