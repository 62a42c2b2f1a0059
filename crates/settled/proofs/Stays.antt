-- An internet that is settled stays settled where its rows became others.
use Rattle.std.proofs.Common.{◌≡◌, ℕ, zero, suc, inl, inr, false, ◌&&◌, ◌||◌, not, ◌==◌, refl, sym, ap, ◌∙◌, subst}
use Rattle.std.proofs.Common.{arith}
use Rattle.std.specs.List.{list_any}
use Rattle.std.proofs.lemmas.Bool.{and_parts, cases_Bool, ltb-true}
use Rattle.at_base.specs.declared.error.Place.TheVariants as place
use Rattle.audit.specs.Rules.{Passes}
use Rattle.audit.proofs.WalkLists.{At}
use Rattle.settled.proofs.Moved.{row_keeps, was}
use Rattle.settled.proofs.Next.{ends_of, near_enough, same_when}
use Rattle.settled.proofs.Tests.{any_has}
use Rattle.settled.specs.Moved.{IsMovedTo}
use Rattle.settled.specs.Offers.{has_nearer_offer, is_nearer_offer, offers_nearer}
use Rattle.settled.specs.Settling.{may_change, IsSettled}
use Rattle.table_image.specs.Internet.{Internet}
use Rattle.table_image.specs.Rows.{is_direct}
use Rattle.table_image.specs.declared.port.Port.{Port}
use Rattle.table_image.specs.declared.row.Row.{Row}
use Rattle.table_image.specs.declared.router.Router.{Router}

module _ (i j : Internet) (ok : Passes i) (settled : IsSettled i) (m : IsMovedTo i j) where
  no_offer : (r k : ℕ) (router : Router) (row : Row) → At j.routers r router → At router.rows k row → is_direct row ≡ false
      → has_nearer_offer j router row ≡ false
  no_offer r k router row er ek indirect =
      elim (cases_Bool (has_nearer_offer j router row)) [
        | inr none ↦ none
        | inl some ↦
            let w = was i j ok m r k router row er ek in
            let p = any_has (λ (port : Port). list_any (offers_nearer port.cable row) j.routers) router.ports some in
            let s = any_has (offers_nearer p.1.cable row) j.routers p.3 in
            let both = and_parts _ _ s.3 in
            let o = any_has (is_nearer_offer p.1.cable row s.1) s.1.rows both.1 in
            let parts = and_parts _ _ o.3 in
            let same = (and_parts _ _ (and_parts _ _ parts.0).0).0 in
            let less = ltb-true (suc o.1.distance) row.distance parts.1 in
            let b = was i j ok m s.0 o.0 s.1 o.1 s.2 o.2 in
            let ends = ends_of o.1 row same in
            let near =
            near_enough i ok settled r k w.old w.before w.old_at w.before_at (w.row_moved.direct ∙ indirect) p.0 p.1
            (subst (λ ps. At ps p.0 p.1) (sym w.moved.ports) p.2) s.0 o.0 b.old b.before b.old_at b.before_at
            (ap (list_any (λ (q : Port). q.cable == p.1.cable)) b.moved.ports ∙ both.0)
            (same_when b.before w.before (b.row_moved.start ∙ (ends.0 ∙ sym w.row_moved.start)) (b.row_moved.end ∙ (ends.1 ∙ sym w.row_moved.end))) in
            let far = w.row_moved.distance in
            let theirs = b.row_moved.distance in
            absurd (omega (arith, near, less, far, theirs))
      ]

  stays : (r k : ℕ) (router : Router) (row : Row) → At j.routers r router → At router.rows k row → may_change j router row ≡ false
  stays r k router row er ek =
      let w = was i j ok m r k router row er ek in
      ap (λ u. not u || (not (is_direct row) && has_nearer_offer j router row)) w.row_moved.usable
      ∙ elim (cases_Bool (is_direct row)) [
        | inl direct ↦ ap (λ d. not d && has_nearer_offer j router row) direct
        | inr indirect ↦ ap (λ d. not d && has_nearer_offer j router row) indirect ∙ no_offer r k router row er ek indirect
      ]

  pub still_settled : IsSettled j
  still_settled (place.Row zero k) = refl
  still_settled (place.Row (suc r) zero) = refl
  still_settled (place.Row (suc r) (suc k)) = row_keeps j r k (may_change j) (stays r k)
  still_settled (place.Missing r k) = refl
  still_settled (place.Cable k) = refl
  still_settled (place.Port r p) = refl
  still_settled (place.Node k) = refl
  still_settled (place.List r k) = refl
