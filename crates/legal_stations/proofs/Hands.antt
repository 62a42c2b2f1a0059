-- The next hop for a network, by a router's tables and by the image's.
use Rattle.std.proofs.Common.{◌≡◌, ℕ, suc, Bool, true, false, ◌&&◌, cond, Option, Some, None, is_some}
use Rattle.std.proofs.Common.{refl, sym, ap, ◌∙◌, arith, slice_get, option_map}
use Rattle.std.proofs.lemmas.Bool.{and_parts, not-false}
use Rattle.at_base.specs.Range.{is_between}
use Rattle.at_base.specs.declared.error.Place.TheVariants as place
use Rattle.audit.specs.Places.{on}
use Rattle.audit.specs.Routing.{Here, On, Nowhere, hand, hand_at, hand_by, hand_over, hand_to, home, owner, row_for}
use Rattle.audit.specs.Rules.{Passes, at_row, bad_range, cable_of, is_for}
use Rattle.audit.specs.Walks.{StepsTo, Stops}
use Rattle.audit.proofs.WalkFacts.{between_is, for_is, is_between_when, some_of}
use Rattle.audit.proofs.WalkLists.{At, at_within, find_at, index_at, index_found}
use Rattle.audit.proofs.WalkSteps.{steps}
use Rattle.image_stations.specs.Holders.{HoldsRouter}
use Rattle.router.specs.Holding.{Holding, hand as hand_in, hand_by as hand_of}
use Rattle.router.specs.declared.hand.Hand.TheVariants as to
use Rattle.rtmp.specs.Routes.{row_for as route_for}
use Rattle.rtmp.specs.States.{is_usable}
use Rattle.rtmp.specs.declared.row.Row.{Row as RouteRow}
use Rattle.table_image.specs.Internet.{Internet}
use Rattle.table_image.specs.RouteRows.{route_row}
use Rattle.table_image.specs.Rows.{is_direct}
use Rattle.table_image.specs.declared.port.Port.{Port}
use Rattle.table_image.specs.declared.row.Row.{Row}
use Rattle.table_image.specs.declared.router.Router.{Router}
use Rattle.legal_stations.proofs.Handed.{find_map}
use Rattle.legal_stations.specs.Agreeing.{Agree, BothHere, BothNowhere, BothOn}

module _ (i : Internet) (ok : Passes i) (r : ℕ) (h : Holding) (holds : HoldsRouter i r h) (n : ℕ) where
  abbrev router : Router
  router = holds.router

  -- A row that holds the network is for a cable that holds it.
  row_listed : (k : ℕ) (row : Row) → At router.rows k row → is_between row.start row.end n ≡ true → (c : ℕ) × (home i n ≡ Some c)
  row_listed k row at within =
      let here : at_row i r k (bad_range i) ≡ bad_range i router row =
      ap (λ o. on o (λ router. on (slice_get router.rows k) (bad_range i router))) holds.known ∙ ap (λ o. on o (bad_range i router)) at in
      let good = not-false (is_usable row.state && is_some (cable_of i row)) (sym here ∙ ok 3 (place.Row (suc r) (suc k))) in
      let of = some_of (cable_of i row) (and_parts (is_usable row.state) (is_some (cable_of i row)) good).1 in
      let w = index_at (is_for row) i.cables of.0 of.1 in
      let ends = for_is row w.0 w.2 in
      let b = between_is row.start row.end n within in
      index_found (λ c. is_between c.start c.end n) i.cables of.0 w.0 w.1
      (is_between_when w.0.start w.0.end n (omega (arith, ends.0, b.0)) (omega (arith, ends.1, b.1)))

  -- The router's decision, by the row that the image has.
  by_row : hand_in h.routes n ≡ hand_of (option_map route_row (row_for router.rows n))
  by_row =
      ap (λ rows. hand_of (route_for n rows)) holds.routes
      ∙ ap hand_of (find_map route_row (λ (x : RouteRow). is_usable x.state && is_between x.range.start x.range.end n) router.rows)

  image_row : hand i r n ≡ hand_by i router (row_for router.rows n)
  image_row = ap (λ o. hand_at i o n) holds.known

  -- There is a route for a listed network.
  not_nowhere : (c : ℕ) → home i n ≡ Some c → hand i r n ≡ Nowhere → ⊥
  not_nowhere c listed e =
      elim (steps i ok r n c (at_within i.routers r router holds.known) listed) as (λ _. ⊥) [
        | Stops here none port ↦ (let x : Here c ≡ Nowhere = sym here ∙ e in cc)
        | StepsTo s d a there own less nearer mine its other ↦ (let x : On s d a ≡ Nowhere = sym there ∙ e in cc)
      ]

  -- A datagram is put only on its home cable.
  put_home : (c d : ℕ) → home i n ≡ Some c → hand i r n ≡ Here d → home i n ≡ Some d
  put_home c d listed e =
      elim (steps i ok r n c (at_within i.routers r router holds.known) listed) as (λ _. home i n ≡ Some d) [
        | Stops here none port ↦ (let x : Here c ≡ Here d = sym here ∙ e in let y : c ≡ d = cc in listed ∙ ap Some y)
        | StepsTo s x a there own less nearer mine its other ↦ (let y : On s x a ≡ Here d = sym there ∙ e in cc)
      ]

  module _ (row : Row) (found : row_for router.rows n ≡ Some row) where
    ours : hand_in h.routes n ≡ cond (is_direct row) (to.Here row.port) (to.On row.port row.next)
    ours = by_row ∙ ap (λ o. hand_of (option_map route_row o)) found

    theirs : hand i r n ≡ hand_over i row (slice_get router.ports row.port)
    theirs = image_row ∙ ap (hand_by i router) found

    listed : (c : ℕ) × (home i n ≡ Some c)
    listed =
        let w = find_at (λ (x : Row). is_usable x.state && is_between x.start x.end n) router.rows row found in
        row_listed w.0 row w.1 (and_parts (is_usable row.state) (is_between row.start row.end n) w.2).1

    by_port : (o : Option Port) → slice_get router.ports row.port ≡ o → Agree i r router h n
    by_port None e = absurd (not_nowhere listed.0 listed.1 (theirs ∙ ap (hand_over i row) e))
    by_port (Some port) e = by_kind (is_direct row) refl
      where
        over : hand i r n ≡ cond (is_direct row) (Here port.cable) (hand_to (owner i port.cable row.next) port.cable row.next)
        over = theirs ∙ ap (hand_over i row) e

        by_owner : (o : Option ℕ) → owner i port.cable row.next ≡ o → is_direct row ≡ false → Agree i r router h n
        by_owner o own d = by_case o own
          where
            there : hand i r n ≡ hand_to (owner i port.cable row.next) port.cable row.next
            there = over ∙ ap (λ b. cond b (Here port.cable) (hand_to (owner i port.cable row.next) port.cable row.next)) d

            by_case : (o : Option ℕ) → owner i port.cable row.next ≡ o → Agree i r router h n
            by_case None own = absurd (not_nowhere listed.0 listed.1 (there ∙ ap (λ o. hand_to o port.cable row.next) own))
            by_case (Some s) own =
                BothOn row.port port s row.next e (ours ∙ ap (λ b. cond b (to.Here row.port) (to.On row.port row.next)) d)
                (there ∙ ap (λ o. hand_to o port.cable row.next) own) own

        by_kind : (b : Bool) → is_direct row ≡ b → Agree i r router h n
        by_kind true d =
            let here = over ∙ ap (λ b. cond b (Here port.cable) (hand_to (owner i port.cable row.next) port.cable row.next)) d in
            BothHere row.port port e (ours ∙ ap (λ b. cond b (to.Here row.port) (to.On row.port row.next)) d) here
            (put_home listed.0 port.cable listed.1 here)
        by_kind false d = by_owner (owner i port.cable row.next) refl d

  pub hands_agree : Agree i r router h n
  hands_agree = by (row_for router.rows n) refl
    where
      by : (o : Option Row) → row_for router.rows n ≡ o → Agree i r router h n
      by None e = BothNowhere (by_row ∙ ap (λ o. hand_of (option_map route_row o)) e) (image_row ∙ ap (hand_by i router) e)
      by (Some row) e = by_port row e (slice_get router.ports row.port) refl
