-- In an internet that passes, no router asks another one for a zone list.
use Rattle.std.proofs.Common.{◌≡◌, ℕ, zero, suc, Bool, true, false, if◌then◌else◌, ◌&&◌, ◌||◌, not, ◌==◌, List, [], ◌∷◌, Some, None, Option}
use Rattle.std.proofs.Common.{length, map, filter, find, refl, sym, ap, ◌∙◌, slice_get, eqb-true, eq-eqb}
use Rattle.std.specs.List.{list_any}
use Rattle.std.proofs.Math.Bool.{and-false}
use Rattle.std.proofs.lemmas.Bool.{and_parts, and_from, not-false, or_parts}
use Rattle.at_base.specs.Range.{same_range as same_span}
use Rattle.at_base.specs.declared.error.Place.TheVariants as place
use Rattle.audit.specs.Places.{on}
use Rattle.audit.specs.Rules.{is_for, Passes}
use Rattle.audit.specs.ZoneLists.{bad_list, is_list_for, lacks_list}
use Rattle.audit.proofs.WalkLists.{At, at_map, find_at, find_found, index_at}
use Rattle.learning.specs.Queries.{is_asked, queries_of, query_about}
use Rattle.rtmp.specs.States.{is_usable}
use Rattle.rtmp.specs.Routes as routes
use Rattle.settled.proofs.Next.{row_good}
use Rattle.settled.proofs.Tests.{any_at}
use Rattle.table_image.specs.Internet.{Internet}
use Rattle.table_image.specs.RouteRows.{route_row}
use Rattle.image_zones.specs.ZoneMaps.{is_told, known_of_list, range_of, zone_map}
use Rattle.table_image.specs.declared.row.Row.{Row}
use Rattle.table_image.specs.declared.router.Router.{Router}
use Rattle.table_image.specs.declared.zone_list.ZoneList.{ZoneList}
use Rattle.zip_zones.specs.Zones.{Known, is_answered, is_complete, known_for, set_list}

-- where no element passes, none is left
none_left : {X : Type 0} (f : X → Bool) (xs : List X) → ((k : ℕ) (x : X) → At xs k x → f x ≡ false) → filter f xs ≡ []
none_left f [] h = refl
none_left f (x ∷ xs) h = ap (λ b. if b then x ∷ filter f xs else filter f xs) (h zero x refl) ∙ none_left f xs (λ k y e. h (suc k) y e)

-- what passes a filter was there before
filtered_at : {X : Type 0} (f : X → Bool) (xs : List X) (k : ℕ) (x : X) → At (filter f xs) k x → (j : ℕ) × At xs j x
filtered_at f [] k x e = cc
filtered_at f (y ∷ xs) k x e =
    elim (f y) as (λ b. At (if b then y ∷ filter f xs else filter f xs) k x → (j : ℕ) × At (y ∷ xs) j x) [
      | true ↦ first (λ n g. let w = filtered_at f xs n x g in (suc w.0, w.1)) k
      | false ↦ λ g. let w = filtered_at f xs k x g in (suc w.0, w.1)
    ] e
  where
    first : ((n : ℕ) → At (filter f xs) n x → (j : ℕ) × At (y ∷ xs) j x) → (n : ℕ) → At (y ∷ filter f xs) n x → (j : ℕ) × At (y ∷ xs) j x
    first later zero g = (zero, g)
    first later (suc n) g = later n g

-- what is there and passes is left
filtered_has : {X : Type 0} (f : X → Bool) (xs : List X) (k : ℕ) (x : X) → At xs k x → f x ≡ true → (j : ℕ) × At (filter f xs) j x
filtered_has f [] k x e t = cc
filtered_has f (y ∷ xs) zero x e t =
    let is : y ≡ x = cc in
    (zero, ap (λ b. slice_get (if b then y ∷ filter f xs else filter f xs) zero) (ap f is ∙ t) ∙ e)
filtered_has f (y ∷ xs) (suc k) x e t =
    let w = filtered_has f xs k x e t in
    elim (f y) as (λ b. (j : ℕ) × At (if b then y ∷ filter f xs else filter f xs) j x) [
      | true ↦ (suc w.0, w.1)
      | false ↦ w
    ]

mapped_has : {X Y : Type 0} (f : X → Y) (xs : List X) (k : ℕ) (x : X) → At xs k x → At (map f xs) k (f x)
mapped_has f [] k x e = cc
mapped_has f (y ∷ xs) zero x e = let is : y ≡ x = cc in ap (λ z. Some (f z)) is
mapped_has f (y ∷ xs) (suc k) x e = mapped_has f xs k x e

-- a complete list is put into the zone table as it is
known_is : (l : ZoneList) → l.complete ≡ true → known_of_list l ≡ set_list (range_of l) l.zones
known_is l e =
    ap (λ b. if b then set_list (range_of l) l.zones else known_of_list (record { start = l.start; end = l.end; complete = false; zones = l.zones })) e

module _ (i : Internet) (ok : Passes i) (r : ℕ) (router : Router) (er : At i.routers r router) where
  complete : (k : ℕ) (l : ZoneList) → At router.lists k l → l.complete ≡ true
  complete k l el =
      let good : bad_list i l ≡ false =
      sym (ap (λ o. on o (λ x. on (slice_get x.lists k) (bad_list i))) er ∙ ap (λ o. on o (bad_list i)) el) ∙ ok 8 (place.List (suc r) (suc k)) in
      not-false l.complete (or_parts _ _ (or_parts _ _ good).0).0

  -- the zone table has a complete list for the range of each row
  answered : (k : ℕ) (a : Row) → At router.rows k a → is_answered (zone_map router.lists) (route_row a).range ≡ true
  answered k a ea =
      let good = (row_good i ok r k router a er ea).1 in
      let c = index_at (is_for a) i.cables good.0 good.1 in
      let has : list_any (λ l. is_list_for l c.0) router.lists ≡ true =
      not-false _ (sym (ap (λ o. on o (λ x. on (slice_get i.cables good.0) (lacks_list x))) er ∙ ap (λ o. on o (lacks_list router)) c.1)
      ∙ ok 8 (place.Missing (suc r) (suc good.0))) in
      let f = find_found _ router.lists has in
      let g = find_at _ router.lists f.0 f.1 in
      let whole = complete g.0 f.0 g.1 in
      let told : is_told f.0 ≡ true = ap (λ b. b || not (length f.0.zones == 0)) whole in
      let left = filtered_has is_told router.lists g.0 f.0 g.1 told in
      let put = mapped_has known_of_list (filter is_told router.lists) left.0 f.0 left.1 in
      let row = and_parts (a.start == c.0.start) (a.end == c.0.end) c.2 in
      let list = and_parts (f.0.start == c.0.start) (f.0.end == c.0.end) g.2 in
      let range : same_span (known_of_list f.0).range (route_row a).range ≡ true =
      ap (λ (n : Known). same_span n.range (route_row a).range) (known_is f.0 whole)
      ∙ and_from _ _ (eq-eqb f.0.start a.start (eqb-true _ _ list.0 ∙ sym (eqb-true _ _ row.0)))
      (eq-eqb f.0.end a.end (eqb-true _ _ list.1 ∙ sym (eqb-true _ _ row.1))) in
      let any = any_at (λ (n : Known). same_span n.range (route_row a).range) (zone_map router.lists) left.0 (known_of_list f.0) put range in
      let found = find_found (λ (n : Known). same_span n.range (route_row a).range) (zone_map router.lists) any in
      by (known_for (route_row a).range (zone_map router.lists)) refl found.0 found.1
    where
      whole_known : (n : Known) → find (λ (m : Known). same_span m.range (route_row a).range) (zone_map router.lists) ≡ Some n → is_complete n ≡ true
      whole_known n e =
          let g = find_at (λ (m : Known). same_span m.range (route_row a).range) (zone_map router.lists) n e in
          let m = at_map known_of_list (filter is_told router.lists) g.0 n g.1 in
          let l = filtered_at is_told router.lists g.0 m.0 m.1 in
          ap is_complete (m.2 ∙ known_is m.0 (complete l.0 m.0 l.1)) ∙ eq-eqb _ _ refl

      by : (o : Option Known) → known_for (route_row a).range (zone_map router.lists) ≡ o → (n : Known)
          → known_for (route_row a).range (zone_map router.lists) ≡ Some n → is_answered (zone_map router.lists) (route_row a).range ≡ true
      by None e n f = cc
      by (Some m) e n f = rw e (whole_known m e)

  pub nobody_asks : queries_of (map route_row router.rows) (zone_map router.lists) ≡ []
  nobody_asks =
      ap (map query_about) (none_left (is_asked (zone_map router.lists)) (map route_row router.rows) (λ k c e.
      let h = at_map route_row router.rows k c e in
      ap (is_asked (zone_map router.lists)) h.2
      ∙ (ap (λ b. is_usable h.0.state && not (routes.is_direct (route_row h.0)) && not b) (answered k h.0 h.1)
      ∙ and-false (is_usable h.0.state && not (routes.is_direct (route_row h.0))))))
