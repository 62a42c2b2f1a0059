-- A router whose zone lists are those of an internet that passes asks for none.
use Rattle.std.proofs.Common.{◌≡◌, ℕ, zero, suc, Bool, true, false, if◌then◌else◌, ◌&&◌, not, ◌==◌, List, [], ◌∷◌, Some, None, Option}
use Rattle.std.proofs.Common.{map, filter, refl, sym, ap, ◌∙◌, subst, slice_get, eqb-true, eq-eqb, arith}
use Rattle.std.specs.List.{list_any}
use Rattle.std.proofs.Math.Bool.{and-false}
use Rattle.std.proofs.lemmas.Bool.{and_parts, and_from, not-false, or_parts}
use Rattle.at_base.specs.Range.{same_range as same_span}
use Rattle.at_base.specs.declared.error.Place.TheVariants as place
use Rattle.audit.specs.Places.{on}
use Rattle.audit.specs.Rules.{Passes, is_for}
use Rattle.audit.specs.ZoneLists.{bad_list, is_list_for, lacks_list}
use Rattle.audit.proofs.WalkLists.{At, at_below, at_map, at_within, find_at, find_found, index_at}
use Rattle.learning.specs.Queries.{is_asked, queries_of, query_about}
use Rattle.rtmp.specs.Routes as routes
use Rattle.rtmp.specs.States.{is_usable}
use Rattle.rtmp.specs.declared.row.Row.{Row as RouteRow}
use Rattle.settled.proofs.Next.{row_good}
use Rattle.settled.proofs.Tests.{any_at}
use Rattle.settled.specs.Exchange.{AreMovedRows}
use Rattle.table_image.specs.Internet.{Internet}
use Rattle.table_image.specs.declared.router.Router.{Router}
use Rattle.table_image.specs.declared.zone_list.ZoneList.{ZoneList}
use Rattle.zip_zones.specs.Zones.{Known, is_answered, is_complete, known_for}

-- where no element passes, none is left
none_left : {X : Type 0} (f : X → Bool) (xs : List X) → ((k : ℕ) (x : X) → At xs k x → f x ≡ false) → filter f xs ≡ []
none_left f [] h = refl
none_left f (x ∷ xs) h = ap (λ b. if b then x ∷ filter f xs else filter f xs) (h zero x refl) ∙ none_left f xs (λ k y e. h (suc k) y e)

mapped_at : {X Y : Type 0} (f : X → Y) (xs : List X) (k : ℕ) (x : X) → At xs k x → At (map f xs) k (f x)
mapped_at f [] k x e = cc
mapped_at f (y ∷ xs) zero x e = let is : y ≡ x = cc in ap (λ z. Some (f z)) is
mapped_at f (y ∷ xs) (suc k) x e = mapped_at f xs k x e

-- the image's zone list for a list of a zone table
abbrev pub image_list : Known → ZoneList
image_list k = record { start = k.range.start; end = k.range.end; complete = is_complete k; zones = k.names }

module _ (i : Internet) (ok : Passes i) (r : ℕ) (router : Router) (er : At i.routers r router) (zones : List Known)
    (lists : router.lists ≡ map image_list zones) where
  complete : (k : ℕ) (z : Known) → At zones k z → is_complete z ≡ true
  complete k z ez =
      let el : At router.lists k (image_list z) = subst (λ l. At l k (image_list z)) (sym lists) (mapped_at image_list zones k z ez) in
      let good : bad_list i (image_list z) ≡ false =
      sym (ap (λ o. on o (λ x. on (slice_get x.lists k) (bad_list i))) er ∙ ap (λ o. on o (bad_list i)) el) ∙ ok 8 (place.List (suc r) (suc k)) in
      not-false (is_complete z) (or_parts _ _ (or_parts _ _ good).0).0

  module _ (rows : List RouteRow) (moved : AreMovedRows i r router rows) where
    answered : (k : ℕ) (c : RouteRow) → At rows k c → is_answered zones c.range ≡ true
    answered k c ec =
        let low = at_within rows k c ec in
        let same = moved.count in
        let was = at_below router.rows k (omega (arith, low, same)) in
        let m = moved.each k was.0 c was.1 ec in
        let good = (row_good i ok r k router was.0 er was.1).1 in
        let cable = index_at (is_for was.0) i.cables good.0 good.1 in
        let has : list_any (λ l. is_list_for l cable.0) router.lists ≡ true =
        not-false _ (sym (ap (λ o. on o (λ x. on (slice_get i.cables good.0) (lacks_list x))) er ∙ ap (λ o. on o (lacks_list router)) cable.1)
        ∙ ok 8 (place.Missing (suc r) (suc good.0))) in
        let f = find_found _ router.lists has in
        let g = find_at _ router.lists f.0 f.1 in
        let z = at_map image_list zones g.0 f.0 (subst (λ l. At l g.0 f.0) lists g.1) in
        let row = and_parts (was.0.start == cable.0.start) (was.0.end == cable.0.end) cable.2 in
        let list = and_parts (f.0.start == cable.0.start) (f.0.end == cable.0.end) g.2 in
        let start : z.0.range.start ≡ c.range.start =
        sym (ap (λ (l : ZoneList). l.start) z.2) ∙ (eqb-true _ _ list.0 ∙ (sym (eqb-true _ _ row.0) ∙ m.start)) in
        let end : z.0.range.end ≡ c.range.end =
        sym (ap (λ (l : ZoneList). l.end) z.2) ∙ (eqb-true _ _ list.1 ∙ (sym (eqb-true _ _ row.1) ∙ m.end)) in
        let range : same_span z.0.range c.range ≡ true = and_from _ _ (eq-eqb _ _ start) (eq-eqb _ _ end) in
        let any = any_at (λ (n : Known). same_span n.range c.range) zones g.0 z.0 z.1 range in
        let found = find_found (λ (n : Known). same_span n.range c.range) zones any in
        by c (known_for c.range zones) refl found.0 found.1
      where
        by : (c : RouteRow) (o : Option Known) → known_for c.range zones ≡ o → (n : Known) → known_for c.range zones ≡ Some n
            → is_answered zones c.range ≡ true
        by c None e n f = cc
        by c (Some y) e n f =
            let at = find_at (λ (m : Known). same_span m.range c.range) zones y e in
            rw e (complete at.0 y at.1)

    -- no query is sent
    pub asks_nobody : queries_of rows zones ≡ []
    asks_nobody =
        ap (map query_about) (none_left (is_asked zones) rows (λ k c e.
        ap (λ b. is_usable c.state && not (routes.is_direct c) && not b) (answered k c e)
        ∙ and-false (is_usable c.state && not (routes.is_direct c))))
