-- The rows of a router in an internet that passes the audit are a valid routing table.
use Rattle.std.proofs.Common.{◌≡◌, ℕ, suc, ◌<◌, inl, inr, true, ◌&&◌, List, [], ◌∷◌, Some, refl, sym, ap, ◌∙◌}
use Rattle.std.proofs.Common.{arith, is_some, length, map, option_map, slice_get, nat_le, nat_lt}
use Rattle.std.specs.List.{list_all}
use Rattle.std.proofs.lemmas.Bool.{and_parts, cases_order, le-leb, lt-ltb, not-false}
use Rattle.std.proofs.lemmas.List.{length-map}
use Rattle.std.proofs.lemmas.List.Folds.{list_all-map}
use Rattle.at_base.specs.Range.{is_range}
use Rattle.at_base.specs.declared.error.Place.TheVariants as place
use Rattle.audit.specs.Places.{on}
use Rattle.audit.specs.Rules.{Passes, at_row, bad_range, cable_of, is_for}
use Rattle.audit.proofs.CableOrder.{rising}
use Rattle.audit.proofs.WalkFacts.{for_is, some_of}
use Rattle.audit.proofs.WalkLists.{At, at_below, index_at}
use Rattle.audit.proofs.WalkSteps.{cable_good}
use Rattle.image_stations.proofs.Addressed.{is_range_when}
use Rattle.image_stations.proofs.Each.{all_when}
use Rattle.rtmp.specs.Routes.{IsRouteMap, are_above, is_row}
use Rattle.rtmp.specs.States.{is_usable}
use Rattle.rtmp.specs.declared.row.Row.{Row as RouteRow}
use Rattle.table_image.specs.Bounds.{AreRising, IsBounded}
use Rattle.table_image.specs.Internet.{Internet}
use Rattle.table_image.specs.RouteRows.{have_ranges, route_row, rows_at}
use Rattle.table_image.specs.declared.cable.Cable.{Cable}
use Rattle.table_image.specs.declared.port.Port.{Port}
use Rattle.table_image.specs.declared.row.Row.{Row}
use Rattle.table_image.specs.declared.router.Router.{Router}

-- Each row ends below the start of a later one, and the first starts above the network `low`.
above : (low : ℕ) (rows : List Row) → ((k : ℕ) (row : Row) → At rows k row → low < row.start)
    → ((j k : ℕ) (a b : Row) → At rows j a → At rows k b → j < k → a.end < b.start) → are_above low (map route_row rows) ≡ true
above low [] first apart = refl
above low (row ∷ rows) first apart =
    ap (λ b. b && are_above row.end (map route_row rows)) (lt-ltb low row.start (first 0 row refl))
    ∙ above row.end rows (λ k b at. apart 0 (suc k) row b refl at (omega arith))
    (λ j k a b at_a at_b lt. apart (suc j) (suc k) a b at_a at_b (omega (arith, lt)))

module _ (i : Internet) (ok : Passes i) (r : ℕ) (router : Router) (known : At i.routers r router) where
  -- A row is for some cable.
  of_cable : (k : ℕ) (row : Row) → At router.rows k row → (c : ℕ) × (cable : Cable) × At i.cables c cable × (is_for row cable ≡ true)
  of_cable k row at =
      let here : at_row i r k (bad_range i) ≡ bad_range i router row =
      ap (λ o. on o (λ router. on (slice_get router.rows k) (bad_range i router))) known ∙ ap (λ o. on o (bad_range i router)) at in
      let good = not-false (is_usable row.state && is_some (cable_of i row)) (sym here ∙ ok 3 (place.Row (suc r) (suc k))) in
      let found = some_of (cable_of i row) (and_parts _ _ good).1 in
      let w = index_at (is_for row) i.cables found.0 found.1 in
      (found.0, w.0, w.1, w.2)

  -- The start of each row's range isn't 0.
  low : (k : ℕ) (row : Row) → At router.rows k row → 0 < row.start
  low k row at =
      let w = of_cable k row at in
      let ends = for_is row w.1 w.3 in
      let good = cable_good i ok w.0 w.1 w.2 in
      let start = ends.0 in
      let above = good.low in omega (arith, start, above)

  has_range : (k : ℕ) (row : Row) → At router.rows k row → is_range row.start row.end ≡ true
  has_range k row at =
      let w = of_cable k row at in
      let ends = for_is row w.1 w.3 in
      let good = cable_good i ok w.0 w.1 w.2 in
      let start = ends.0 in
      let end = ends.1 in
      let up = good.up in
      let high = good.high in
      is_range_when row.start row.end (low k row at) (omega (arith, start, end, up)) (omega (arith, end, high))

  -- The range of each row is valid.
  ranges_valid : have_ranges router.rows ≡ true
  ranges_valid = all_when (λ row. is_range row.start row.end) router.rows has_range

  -- A row ends below the start of a later one, because the cables do.
  apart : AreRising router.rows → (j k : ℕ) (a b : Row) → At router.rows j a → At router.rows k b → j < k → a.end < b.start
  apart rises j k a b at_a at_b lt =
      let v = of_cable j a at_a in
      let w = of_cable k b at_b in
      let mine = for_is a v.1 v.3 in
      let its = for_is b w.1 w.3 in
      let starts = rises j k a b at_a at_b lt in
      let start_a = mine.0 in
      let end_a = mine.1 in
      let start_b = its.0 in
      elim (cases_order v.0 w.0) as (λ _. a.end < b.start) [
        | inl same ↦
            let one : Some v.1 ≡ Some w.1 = sym v.2 ∙ (ap (slice_get i.cables) same ∙ w.2) in
            let cable : v.1 ≡ w.1 = cc in
            let start : v.1.start ≡ w.1.start = ap (λ (c : Cable). c.start) cable in
            absurd (omega (arith, starts, start, start_a, start_b))
        | inr (inl lower) ↦ let h = rising i (ok 1) w.0 v.0 v.1 w.1 v.2 w.2 lower in omega (arith, h, end_a, start_b)
        | inr (inr upper) ↦
            let h = rising i (ok 1) v.0 w.0 w.1 v.1 w.2 v.2 upper in
            let up = (cable_good i ok w.0 w.1 w.2).up in
            absurd (omega (arith, h, up, starts, start_a, start_b))
      ]

  -- The rows are a valid routing table.
  pub route_map : IsBounded i → IsRouteMap (map route_row router.rows)
  route_map bounded =
      let limits = bounded.each r router known in
      record {
        apart = above 0 router.rows low (apart limits.rising);
        each =
            list_all-map is_row route_row router.rows
            ∙ all_when (λ row. is_row (route_row row)) router.rows (λ k row at.
            ap (λ b. b && nat_le row.distance 31) (has_range k row at) ∙ le-leb row.distance 31 (limits.each_row k row at).distance);
        few =
            let few = limits.rows in
            let same = length-map router.rows route_row in
            omega (arith, few, same);
      }

  -- The port of each row is one of the router's ports.
  rows_ported : IsBounded i → list_all (λ (row : RouteRow). nat_lt row.port (length router.ports)) (map route_row router.rows) ≡ true
  rows_ported bounded =
      list_all-map (λ (row : RouteRow). nat_lt row.port (length router.ports)) route_row router.rows
      ∙ all_when (λ (row : Row). nat_lt row.port (length router.ports)) router.rows
      (λ k row at. lt-ltb row.port (length router.ports) ((bounded.each r router known).each_row k row at).port)

  -- The port of each row is one of the ports, for rows and ports that equal the router's.
  pub are_ported : (ports : List Port) (rows : List RouteRow) → IsBounded i → ports ≡ router.ports → rows ≡ map route_row router.rows
      → list_all (λ (row : RouteRow). nat_lt row.port (length ports)) rows ≡ true
  are_ported ports rows bounded same_ports same_rows =
      ap (λ (all : List Port). list_all (λ (row : RouteRow). nat_lt row.port (length all)) rows) same_ports
      ∙ (ap (list_all (λ (row : RouteRow). nat_lt row.port (length router.ports))) same_rows ∙ rows_ported bounded)

-- The rows of a router, by its index.
pub rows_are : (i : Internet) (r : ℕ) (router : Router) (rows : List RouteRow) → At i.routers r router
    → option_map (map route_row) (rows_at r i) ≡ Some rows → rows ≡ map route_row router.rows
rows_are i r router rows known e =
    let here : Some (map route_row router.rows) ≡ Some rows =
    sym (ap (λ o. option_map (map route_row) (option_map (λ (x : Router). x.rows) o)) known) ∙ e in
    cc

pub ranges_at : (i : Internet) (r : ℕ) → Passes i → r < length i.routers → option_map have_ranges (rows_at r i) ≡ Some true
ranges_at i r ok there =
    let known = at_below i.routers r there in
    ap (λ o. option_map have_ranges (option_map (λ (x : Router). x.rows) o)) known.1 ∙ ap Some (ranges_valid i ok r known.0 known.1)

-- The rows of a valid table have distances that fit into a packet.
pub near : (rows : List RouteRow) → list_all is_row rows ≡ true → list_all (λ (row : RouteRow). nat_le row.distance 31) rows ≡ true
near [] h = refl
near (row ∷ rows) h =
    let parts = and_parts (is_row row) (list_all is_row rows) h in
    ap (λ b. b && list_all (λ (row : RouteRow). nat_le row.distance 31) rows)
    (and_parts (is_range row.range.start row.range.end) (nat_le row.distance 31) parts.0).1 ∙ near rows parts.1
