-- The rows of a router in an image that passes the audit are a routing table.
use Rattle.std.proofs.Common.{◌≡◌, ℕ, suc, ◌<◌, inl, inr, Bool, true, ◌&&◌, List, [], ◌∷◌, Some, refl, sym, ap, ◌∙◌, subst}
use Rattle.std.proofs.Common.{arith, is_some, length, map, slice_get, nat_le, ◌≤◌}
use Rattle.std.specs.List.{list_all}
use Rattle.std.proofs.lemmas.Bool.{and_parts, cases_order, le-leb, lt-ltb, not-false}
use Rattle.std.proofs.lemmas.Bool.Decides.{nat_tests}
use Rattle.std.proofs.lemmas.List.{length-map}
use Rattle.at_base.specs.Range.{is_range}
use Rattle.at_base.specs.declared.error.Place.TheVariants as place
use Rattle.audit.proofs.CableOrder.{rising}
use Rattle.audit.proofs.WalkFacts.{for_is, some_of}
use Rattle.audit.proofs.WalkLists.{At, index_at}
use Rattle.audit.proofs.WalkSteps.{cable_good}
use Rattle.audit.specs.Places.{on}
use Rattle.audit.specs.Rules.{Passes, at_row, bad_range, cable_of, is_for}
use Rattle.freeze.specs.Freezing.{frozen_row}
use Rattle.lasting.proofs.Images.{mapped}
use Rattle.rtmp.specs.Routes.{IsRouteMap, are_above, is_row}
use Rattle.rtmp.specs.States.{is_usable}
use Rattle.rtmp.specs.declared.row.Row.{Row as RouteRow}
use Rattle.table_image.specs.Bounds.{AreRising, IsBounded}
use Rattle.table_image.specs.Internet.{Internet}
use Rattle.table_image.specs.declared.cable.Cable.{Cable}
use Rattle.table_image.specs.declared.row.Row.{Row}
use Rattle.table_image.specs.declared.router.Router.{Router}

is_range_when : (start end : ℕ) → 0 < start → start ≤ end → end ≤ 0xFEFF → is_range start end ≡ true
is_range_when start end low up high = grind (arith, nat_tests)

all_when : {X : Type 0} (test : X → Bool) (xs : List X) → ((k : ℕ) (x : X) → At xs k x → test x ≡ true) → list_all test xs ≡ true
all_when test [] each = refl
all_when test (x ∷ xs) each = ap (λ b. b && list_all test xs) (each 0 x refl) ∙ all_when test xs (λ k y at. each (suc k) y at)

-- Each row ends below the start of a later one, and the first starts above the network `low`.
above : (low : ℕ) (rows : List RouteRow) → ((k : ℕ) (c : RouteRow) → At rows k c → low < c.range.start)
    → ((j k : ℕ) (a b : RouteRow) → At rows j a → At rows k b → j < k → a.range.end < b.range.start) → are_above low rows ≡ true
above low [] first apart = refl
above low (c ∷ rows) first apart =
    ap (λ b. b && are_above c.range.end rows) (lt-ltb low c.range.start (first 0 c refl))
    ∙ above c.range.end rows (λ k b at. apart 0 (suc k) c b refl at (omega arith))
    (λ j k a b at_a at_b lt. apart (suc j) (suc k) a b at_a at_b (omega (arith, lt)))

module _ (i : Internet) (ok : Passes i) (r : ℕ) (router : Router) (known : At i.routers r router) where
  -- a row is for some cable
  of_cable : (k : ℕ) (row : Row) → At router.rows k row → (c : ℕ) × (cable : Cable) × At i.cables c cable × (is_for row cable ≡ true)
  of_cable k row at =
      let here : at_row i r k (bad_range i) ≡ bad_range i router row =
      ap (λ o. on o (λ router. on (slice_get router.rows k) (bad_range i router))) known ∙ ap (λ o. on o (bad_range i router)) at in
      let good = not-false (is_usable row.state && is_some (cable_of i row)) (sym here ∙ ok 3 (place.Row (suc r) (suc k))) in
      let found = some_of (cable_of i row) (and_parts _ _ good).1 in
      let w = index_at (is_for row) i.cables found.0 found.1 in
      (found.0, w.0, w.1, w.2)

  low : (k : ℕ) (row : Row) → At router.rows k row → 0 < row.start
  low k row at =
      let w = of_cable k row at in
      let ends = for_is row w.1 w.3 in
      let good = cable_good i ok w.0 w.1 w.2 in
      let start = ends.0 in
      let above = good.low in omega (arith, start, above)

  has_range : (k : ℕ) (row : Row) → At router.rows k row → is_range row.start row.end ≡ true
  has_range k row at =
      let w = of_cable k row at in
      let ends = for_is row w.1 w.3 in
      let good = cable_good i ok w.0 w.1 w.2 in
      let start = ends.0 in
      let end = ends.1 in
      let up = good.up in
      let high = good.high in
      is_range_when row.start row.end (low k row at) (omega (arith, start, end, up)) (omega (arith, end, high))

  -- a row ends below the start of a later one, because the cables do
  apart : AreRising router.rows → (j k : ℕ) (a b : Row) → At router.rows j a → At router.rows k b → j < k → a.end < b.start
  apart rises j k a b at_a at_b lt =
      let v = of_cable j a at_a in
      let w = of_cable k b at_b in
      let mine = for_is a v.1 v.3 in
      let its = for_is b w.1 w.3 in
      let starts = rises j k a b at_a at_b lt in
      let start_a = mine.0 in
      let end_a = mine.1 in
      let start_b = its.0 in
      elim (cases_order v.0 w.0) as (λ _. a.end < b.start) [
        | inl same ↦
            let one : Some v.1 ≡ Some w.1 = sym v.2 ∙ (ap (slice_get i.cables) same ∙ w.2) in
            let cable : v.1 ≡ w.1 = cc in
            let start : v.1.start ≡ w.1.start = ap (λ (c : Cable). c.start) cable in
            absurd (omega (arith, starts, start, start_a, start_b))
        | inr (inl lower) ↦ let h = rising i (ok 1) w.0 v.0 v.1 w.1 v.2 w.2 lower in omega (arith, h, end_a, start_b)
        | inr (inr upper) ↦
            let h = rising i (ok 1) v.0 w.0 w.1 v.1 w.2 v.2 upper in
            let up = (cable_good i ok w.0 w.1 w.2).up in
            absurd (omega (arith, h, up, starts, start_a, start_b))
      ]

  module _ (rows : List RouteRow) (same : router.rows ≡ map frozen_row rows) where
    frozen_at : (k : ℕ) (c : RouteRow) → At rows k c → At router.rows k (frozen_row c)
    frozen_at k c e = subst (λ l. At l k (frozen_row c)) (sym same) (mapped frozen_row rows k c e)

    -- the rows of which it was made are a routing table
    pub route_map : IsBounded i → IsRouteMap rows
    route_map bounded =
        let limits = bounded.each r router known in
        let few = limits.rows in
        let many = ap length same in
        let as_many = length-map rows frozen_row in
        record {
          apart =
              above 0 rows (λ k c e. low k (frozen_row c) (frozen_at k c e))
              (λ j k a b ea eb lt. apart limits.rising j k (frozen_row a) (frozen_row b) (frozen_at j a ea) (frozen_at k b eb) lt);
          each =
              all_when is_row rows
              (λ k c e.
              ap (λ b. b && nat_le c.distance 31) (has_range k (frozen_row c) (frozen_at k c e))
              ∙ le-leb c.distance 31 (limits.each_row k (frozen_row c) (frozen_at k c e)).distance);
          few = omega (arith, few, many, as_many);
        }
