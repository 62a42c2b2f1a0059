-- The zone lists of a router in an internet that passes the audit are a valid zone table.
use Rattle.std.proofs.Common.{◌≡◌, ℕ, suc, ◌<◌, true, ◌&&◌, ◌||◌, not, List, [], ◌∷◌, Some, refl, sym, ap, ◌∙◌, arith, length}
use Rattle.std.proofs.Common.{nat_lt, option_map, ◌==◌}
use Rattle.std.proofs.lemmas.Bool.{lt-ltb}
use Rattle.at_base.specs.Limits.{max_zones}
use Rattle.at_base.specs.Range.{is_range}
use Rattle.audit.specs.Rules.{Passes}
use Rattle.audit.specs.ZoneLists.{IsListOf}
use Rattle.audit.proofs.CableOrder.{rising}
use Rattle.audit.proofs.WalkLists.{At, at_below}
use Rattle.audit.proofs.WalkSteps.{cable_good}
use Rattle.audit.proofs.ZonesAgree.{zones_agree}
use Rattle.image_stations.proofs.Addressed.{is_range_when}
use Rattle.image_stations.proofs.Each.{all_when}
use Rattle.image_zones.proofs.ZoneTables.{all_few, one_told}
use Rattle.table_image.specs.Bounds.{Every, IsBounded}
use Rattle.table_image.specs.Internet.{Internet}
use Rattle.image_zones.specs.ZoneMaps.{have_few_zones, have_zone_ranges, is_told, known_of_list, lists_at, zone_map}
use Rattle.table_image.specs.declared.cable.Cable.{Cable}
use Rattle.table_image.specs.declared.router.Router.{Router}
use Rattle.table_image.specs.declared.zone_list.ZoneList.{ZoneList}
use Rattle.zip_zones.specs.Zones.{are_above}

-- The range in the zone table of a complete list is the list's.
starts : (l : ZoneList) → l.complete ≡ true → (known_of_list l).range.start ≡ l.start
starts l e = rw e refl

ends : (l : ZoneList) → l.complete ≡ true → (known_of_list l).range.end ≡ l.end
ends l e = rw e refl

-- Each list ends below the start of a later one, and the first starts above the network `low`.
above : (low : ℕ) (lists : List ZoneList) → Every (λ (l : ZoneList). l.complete ≡ true) lists
    → ((k : ℕ) (l : ZoneList) → At lists k l → low < l.start)
    → ((j k : ℕ) (a b : ZoneList) → At lists j a → At lists k b → j < k → a.end < b.start) → are_above low (zone_map lists) ≡ true
above low [] full first apart = refl
above low (l ∷ lists) full first apart =
    let complete = full 0 l refl in
    let told : is_told l ≡ true = ap (λ b. b || not (length l.zones == 0)) complete in
    ap (are_above low) (one_told l lists told)
    ∙ (ap (λ n. nat_lt low n && are_above (known_of_list l).range.end (zone_map lists)) (starts l complete)
    ∙ (ap (λ b. b && are_above (known_of_list l).range.end (zone_map lists)) (lt-ltb low l.start (first 0 l refl))
    ∙ (ap (λ n. are_above n (zone_map lists)) (ends l complete)
    ∙ above l.end lists (λ k m at. full (suc k) m at) (λ k m at. apart 0 (suc k) l m refl at (omega arith))
    (λ j k a b at_a at_b lt. apart (suc j) (suc k) a b at_a at_b (omega (arith, lt))))))

module _ (i : Internet) (ok : Passes i) (bounded : IsBounded i) (r : ℕ) (router : Router) (known : At i.routers r router) where
  of_cable : (k : ℕ) (l : ZoneList) → At router.lists k l → (c : Cable) × At i.cables k c × IsListOf l c
  of_cable k l at = (zones_agree i ok bounded r router known).same k l at

  complete : (k : ℕ) (l : ZoneList) → At router.lists k l → l.complete ≡ true
  complete k l at = (of_cable k l at).2.complete

  low : (k : ℕ) (l : ZoneList) → At router.lists k l → 0 < l.start
  low k l at =
      let w = of_cable k l at in
      let start = w.2.start in
      let positive = (cable_good i ok k w.0 w.1).low in
      omega (arith, start, positive)

  has_range : (k : ℕ) (l : ZoneList) → At router.lists k l → is_range l.start l.end ≡ true
  has_range k l at =
      let w = of_cable k l at in
      let good = cable_good i ok k w.0 w.1 in
      let start = w.2.start in
      let end = w.2.end in
      let up = good.up in
      let high = good.high in
      is_range_when l.start l.end (low k l at) (omega (arith, start, end, up)) (omega (arith, end, high))

  apart : (j k : ℕ) (a b : ZoneList) → At router.lists j a → At router.lists k b → j < k → a.end < b.start
  apart j k a b at_a at_b lt =
      let v = of_cable j a at_a in
      let w = of_cable k b at_b in
      let h = rising i (ok 1) k j v.0 w.0 v.1 w.1 lt in
      let end = v.2.end in
      let start = w.2.start in
      omega (arith, h, end, start)

  -- The lists have the ranges of a zone table.
  pub zone_ranges : have_zone_ranges router.lists ≡ true
  zone_ranges =
      ap (λ b. b && are_above 0 (zone_map router.lists)) (all_when (λ (l : ZoneList). is_range l.start l.end) router.lists has_range)
      ∙ above 0 router.lists complete low apart

  -- A zone table has room for the lists.
  pub few_zones : have_few_zones router.lists ≡ true
  few_zones =
      sym (all_few router.lists (λ k l at. ((bounded.each r router known).each_list k l at).few))
      ∙ all_when (λ (l : ZoneList). l.complete || nat_lt (length l.zones) max_zones) router.lists
      (λ k l at. ap (λ b. b || nat_lt (length l.zones) max_zones) (complete k l at))

-- The lists of a router by its index have the ranges of a zone table, which has room for them.
module _ (i : Internet) (r : ℕ) (ok : Passes i) (bounded : IsBounded i) (there : r < length i.routers) where
  pub zone_ranges_at : option_map have_zone_ranges (lists_at r i) ≡ Some true
  zone_ranges_at =
      let known = at_below i.routers r there in
      ap (λ o. option_map have_zone_ranges (option_map (λ (x : Router). x.lists) o)) known.1
      ∙ ap Some (zone_ranges i ok bounded r known.0 known.1)

  pub few_zones_at : option_map have_few_zones (lists_at r i) ≡ Some true
  few_zones_at =
      let known = at_below i.routers r there in
      ap (λ o. option_map have_few_zones (option_map (λ (x : Router). x.lists) o)) known.1
      ∙ ap Some (few_zones i ok bounded r known.0 known.1)
