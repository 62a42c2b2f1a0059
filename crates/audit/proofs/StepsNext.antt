-- If distances fall, next routers exist: rule C7 implies rule C6.
use Rattle.std.proofs.Common.{◌≡◌, ℕ, zero, suc, ◌+◌, Bool, true, false, not, ◌&&◌, ◌==◌, Option, Some, None, slice_get, refl, sym, ap}
use Rattle.std.proofs.Common.{◌∙◌, subst, arith, eqb-true, eq-eqb}
use Rattle.std.proofs.lemmas.Bool.{ne_eqb}
use Rattle.at_base.specs.declared.error.Place.{Place}
use Rattle.at_base.specs.declared.error.Place.TheVariants as place
use Rattle.table_image.specs.Internet.{Internet}
use Rattle.table_image.specs.Bounds.{IsBounded, AreRising}
use Rattle.audit.specs.Places.{on}
use Rattle.table_image.specs.Rows.{is_direct}
use Rattle.table_image.specs.declared.row.Row.{Row}
use Rattle.table_image.specs.declared.router.Router.{Router}
use Rattle.audit.specs.Rules.{c6, c7, next_router, is_no_other, bad_step, not_one_less, same_row}
use Rattle.audit.proofs.RowOrder.{only_row}

-- a row is its own router's row of its range, and that isn't one nearer
own_row : (i : Internet) (r : ℕ) (router : Router) (k : ℕ) (row : Row) → slice_get i.routers r ≡ Some router
    → slice_get router.rows k ≡ Some row → AreRising router.rows → bad_step i row (Some r) ≡ true
own_row i r router k row e f rise =
    let start : (row.start == row.start) ≡ true = eq-eqb row.start row.start refl in
    let end : (row.end == row.end) ≡ true = eq-eqb row.end row.end refl in
    let same : (row.start == row.start && row.end == row.end) ≡ true = ap (λ b. b && (row.end == row.end)) start ∙ end in
    let mine = sym (only_row router.rows row k row rise f same) in
    let far : (row.distance + 1 == row.distance) ≡ false = ne_eqb (row.distance + 1) row.distance (λ h. omega arith) in
    ap (λ o. not_one_less row (same_row o row)) e ∙ (ap (not_one_less row) mine ∙ ap not far)

core : (i : Internet) (r : ℕ) (row : Row) (d : Bool) (n : Option ℕ) → (not d && bad_step i row n) ≡ false → bad_step i row (Some r) ≡ true
    → (not d && is_no_other r n) ≡ false
core i r row true n h own = refl
core i r row false None h own = cc
core i r row false (Some s) h own =
    elim (r == s) as (λ (b : Bool). (r == s) ≡ b → b ≡ false) [
      | true ↦ λ e. (let same : r ≡ s = eqb-true r s e in let bad : bad_step i row (Some s) ≡ true =
          subst (λ (n : ℕ). bad_step i row (Some n) ≡ true) same own in sym bad ∙ h)
      | false ↦ λ e. refl
    ] refl

-- a row that keeps C7 keeps C6
pub step_keeps_next : (i : Internet) (r : ℕ) (router : Router) (k : ℕ) (row : Row) → slice_get i.routers r ≡ Some router
    → slice_get router.rows k ≡ Some row → AreRising router.rows
    → (not (is_direct row) && bad_step i row (next_router i router row)) ≡ false
    → (not (is_direct row) && is_no_other r (next_router i router row)) ≡ false
step_keeps_next i r router k row e f rise h =
    core i r row (is_direct row) (next_router i router row) h (own_row i r router k row e f rise)

pub steps_keep_next : (i : Internet) → IsBounded i → ((p : Place) → c7 i p ≡ false) → (p : Place) → c6 i p ≡ false
steps_keep_next i b kept (place.Row (suc r) (suc k)) = at_router (slice_get i.routers r) refl (kept (place.Row (suc r) (suc k)))
  where
    at_place : (router : Router) → slice_get i.routers r ≡ Some router → (o : Option Row) → slice_get router.rows k ≡ o
        → on o (λ row. not (is_direct row) && bad_step i row (next_router i router row)) ≡ false
        → on o (λ row. not (is_direct row) && is_no_other r (next_router i router row)) ≡ false
    at_place router e None f h = refl
    at_place router e (Some row) f h = step_keeps_next i r router k row e f (b.each r router e).rising h

    at_router : (o : Option Router) → slice_get i.routers r ≡ o
        → on o (λ router. on (slice_get router.rows k) (λ row. not (is_direct row) && bad_step i row (next_router i router row))) ≡ false
        → on o (λ router. on (slice_get router.rows k) (λ row. not (is_direct row) && is_no_other r (next_router i router row))) ≡ false
    at_router None e h = refl
    at_router (Some router) e h = at_place router e (slice_get router.rows k) refl h
steps_keep_next i b kept (place.Row zero k) = refl
steps_keep_next i b kept (place.Row (suc r) zero) = refl
steps_keep_next i b kept (place.Cable k) = refl
steps_keep_next i b kept (place.Port r p) = refl
steps_keep_next i b kept (place.Node k) = refl
steps_keep_next i b kept (place.Missing r k) = refl
steps_keep_next i b kept (place.List r k) = refl
