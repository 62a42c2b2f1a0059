-- A rule is kept if a test over the lists says so. The test can be computed for a given internet.
use Rattle.std.proofs.Common.{◌≡◌, ◌≢◌, ℕ, zero, suc, Bool, true, false, ◌||◌, ◌&&◌, not, if◌then◌else◌, List, [], ◌∷◌, Some, None, refl}
use Rattle.std.proofs.Common.{sym, ap, ◌∙◌, slice_get, nat_lt, ◌==◌, eqb-true}
use Rattle.std.specs.List.{list_any}
use Rattle.std.proofs.lemmas.Bool.{or_parts}
use Rattle.at_base.specs.declared.error.Place.{Place}
use Rattle.at_base.specs.declared.error.Place.TheVariants as place
use Rattle.table_image.specs.Internet.{Internet}
use Rattle.audit.specs.Places.{on}
use Rattle.table_image.specs.Rows.{is_direct}
use Rattle.table_image.specs.declared.row.Row.{Row}
use Rattle.table_image.specs.declared.router.Router.{Router}
use Rattle.audit.specs.Rules.{end_before, bad_cable, c1, bad_port, bad_node, c2, at_row, cable_of, bad_range, lacks_row, c3, port_on}
use Rattle.audit.specs.Rules.{bad_direct, c4, c5, next_router, is_no_other, c6, bad_step, c7, c8, c9, c10, bad_service, is_false, breaks, Passes, Keeps}
use Rattle.audit.specs.ZoneLists.{bad_list, lacks_list}
use Rattle.audit.proofs.WalkLists.{At}

-- an element passes the test for its index
abbrev pub any_at : {X : Type 0} → (ℕ → X → Bool) → List X → Bool
any_at test [] = false
any_at test (x ∷ xs) = test zero x || any_at (λ k. test (suc k)) xs

none_at : {X : Type 0} (test : ℕ → X → Bool) (xs : List X) → any_at test xs ≡ false → (k : ℕ) (x : X) → At xs k x → test k x ≡ false
none_at test [] none k x e = cc
none_at test (y ∷ xs) none zero x e =
    let same : y ≡ x = cc in
    sym (ap (test zero) same) ∙ (or_parts (test zero y) (any_at (λ k. test (suc k)) xs) none).0
none_at test (y ∷ xs) none (suc k) x e =
    none_at (λ k. test (suc k)) xs (or_parts (test zero y) (any_at (λ k. test (suc k)) xs) none).1 k x e

on_each : {X : Type 0} (xs : List X) (k : ℕ) (test : X → Bool) → ((x : X) → At xs k x → test x ≡ false) → on (slice_get xs k) test ≡ false
on_each xs k test each =
    elim (slice_get xs k) as (λ o. slice_get xs k ≡ o → on o test ≡ false) [
      | None ↦ λ e. refl
      | Some x ↦ λ e. each x e
    ] refl

-- if the test over the list fails, the test fails at each index
kept_at : {X : Type 0} (test : ℕ → X → Bool) (xs : List X) → any_at test xs ≡ false → (k : ℕ) → on (slice_get xs k) (test k) ≡ false
kept_at test xs none k = on_each xs k (test k) (none_at test xs none k)

kept_in : {X Y : Type 0} (part : X → List Y) (test : ℕ → X → ℕ → Y → Bool) (xs : List X)
    → any_at (λ r x. any_at (test r x) (part x)) xs ≡ false → (r k : ℕ)
    → on (slice_get xs r) (λ x. on (slice_get (part x) k) (test r x k)) ≡ false
kept_in part test xs none r k =
    on_each xs r (λ x. on (slice_get (part x) k) (test r x k)) (λ x e.
    kept_at (test r x) (part x) (none_at (λ r x. any_at (test r x) (part x)) xs none r x e) k)

-- ---- the rules as tests over the lists: some place breaks the rule

abbrev pub breaks_one : Internet → Bool
breaks_one i = any_at (λ k. bad_cable (end_before i.cables k)) i.cables

abbrev pub breaks_two : Internet → Bool
breaks_two i = any_at (λ r router. any_at (λ p. bad_port i r p router) router.ports) i.routers || any_at (bad_node i) i.nodes

-- a row passes the test for its router
abbrev pub any_row : (ℕ → Router → Row → Bool) → Internet → Bool
any_row test i = any_at (λ r router. any_at (λ k. test r router) router.rows) i.routers

abbrev pub breaks_three : Internet → Bool
breaks_three i = any_row (λ r. bad_range i) i || any_at (λ r router. any_at (λ k. lacks_row router) i.cables) i.routers

abbrev pub breaks_four : Internet → Bool
breaks_four i = any_row (λ r router row. on (cable_of i row) (λ c. bad_direct row (port_on router c))) i

abbrev pub breaks_five : Internet → Bool
breaks_five i = any_row (λ r router row. nat_lt 14 row.distance) i

abbrev pub breaks_six : Internet → Bool
breaks_six i = any_row (λ r router row. not (is_direct row) && is_no_other r (next_router i router row)) i

abbrev pub breaks_seven : Internet → Bool
breaks_seven i = any_row (λ r router row. not (is_direct row) && bad_step i row (next_router i router row)) i

abbrev pub breaks_eight : Internet → Bool
breaks_eight i =
    any_at (λ r router. any_at (λ k. bad_list i) router.lists) i.routers
    || any_at (λ r router. any_at (λ k. lacks_list router) i.cables) i.routers

abbrev pub breaks_nine : Internet → Bool
breaks_nine i = any_at (λ k. bad_service i) i.nodes

abbrev pub breaks_ten : Internet → Bool
breaks_ten i =
    any_at (λ r router. any_at (λ p port. list_any (is_false i port.cable) port.mappings) router.ports) i.routers
    || any_at (λ k node. list_any (is_false i node.cable) node.mappings) i.nodes

one_kept : (i : Internet) → breaks_one i ≡ false → (p : Place) → c1 i p ≡ false
one_kept i none (place.Cable zero) = refl
one_kept i none (place.Cable (suc k)) = kept_at (λ k. bad_cable (end_before i.cables k)) i.cables none k
one_kept i none (place.Port r p) = refl
one_kept i none (place.Node k) = refl
one_kept i none (place.Row r k) = refl
one_kept i none (place.Missing r k) = refl
one_kept i none (place.List r k) = refl

two_kept : (i : Internet) → breaks_two i ≡ false → (p : Place) → c2 i p ≡ false
two_kept i none (place.Cable k) = refl
two_kept i none (place.Port zero p) = refl
two_kept i none (place.Port (suc r) zero) = refl
two_kept i none (place.Port (suc r) (suc p)) =
    kept_in (λ (router : Router). router.ports) (λ r router p. bad_port i r p router) i.routers (or_parts _ _ none).0 r p
two_kept i none (place.Node zero) = refl
two_kept i none (place.Node (suc k)) = kept_at (bad_node i) i.nodes (or_parts _ _ none).1 k
two_kept i none (place.Row r k) = refl
two_kept i none (place.Missing r k) = refl
two_kept i none (place.List r k) = refl

rows_kept : (i : Internet) (test : ℕ → Router → Row → Bool) → any_row test i ≡ false → (r k : ℕ) → at_row i r k (test r) ≡ false
rows_kept i test none r k = kept_in (λ (router : Router). router.rows) (λ r router k. test r router) i.routers none r k

three_kept : (i : Internet) → breaks_three i ≡ false → (p : Place) → c3 i p ≡ false
three_kept i none (place.Cable k) = refl
three_kept i none (place.Port r p) = refl
three_kept i none (place.Node k) = refl
three_kept i none (place.Row zero k) = refl
three_kept i none (place.Row (suc r) zero) = refl
three_kept i none (place.Row (suc r) (suc k)) = rows_kept i (λ r. bad_range i) (or_parts _ _ none).0 r k
three_kept i none (place.Missing zero k) = refl
three_kept i none (place.Missing (suc r) zero) = refl
three_kept i none (place.Missing (suc r) (suc k)) =
    kept_in (λ router. i.cables) (λ r router k. lacks_row router) i.routers (or_parts _ _ none).1 r k
three_kept i none (place.List r k) = refl

four_kept : (i : Internet) → breaks_four i ≡ false → (p : Place) → c4 i p ≡ false
four_kept i none (place.Cable k) = refl
four_kept i none (place.Port r p) = refl
four_kept i none (place.Node k) = refl
four_kept i none (place.Row zero k) = refl
four_kept i none (place.Row (suc r) zero) = refl
four_kept i none (place.Row (suc r) (suc k)) =
    rows_kept i (λ r router row. on (cable_of i row) (λ c. bad_direct row (port_on router c))) none r k
four_kept i none (place.Missing r k) = refl
four_kept i none (place.List r k) = refl

five_kept : (i : Internet) → breaks_five i ≡ false → (p : Place) → c5 i p ≡ false
five_kept i none (place.Cable k) = refl
five_kept i none (place.Port r p) = refl
five_kept i none (place.Node k) = refl
five_kept i none (place.Row zero k) = refl
five_kept i none (place.Row (suc r) zero) = refl
five_kept i none (place.Row (suc r) (suc k)) = rows_kept i (λ r router row. nat_lt 14 row.distance) none r k
five_kept i none (place.Missing r k) = refl
five_kept i none (place.List r k) = refl

six_kept : (i : Internet) → breaks_six i ≡ false → (p : Place) → c6 i p ≡ false
six_kept i none (place.Cable k) = refl
six_kept i none (place.Port r p) = refl
six_kept i none (place.Node k) = refl
six_kept i none (place.Row zero k) = refl
six_kept i none (place.Row (suc r) zero) = refl
six_kept i none (place.Row (suc r) (suc k)) =
    rows_kept i (λ r router row. not (is_direct row) && is_no_other r (next_router i router row)) none r k
six_kept i none (place.Missing r k) = refl
six_kept i none (place.List r k) = refl

seven_kept : (i : Internet) → breaks_seven i ≡ false → (p : Place) → c7 i p ≡ false
seven_kept i none (place.Cable k) = refl
seven_kept i none (place.Port r p) = refl
seven_kept i none (place.Node k) = refl
seven_kept i none (place.Row zero k) = refl
seven_kept i none (place.Row (suc r) zero) = refl
seven_kept i none (place.Row (suc r) (suc k)) =
    rows_kept i (λ r router row. not (is_direct row) && bad_step i row (next_router i router row)) none r k
seven_kept i none (place.Missing r k) = refl
seven_kept i none (place.List r k) = refl

eight_kept : (i : Internet) → breaks_eight i ≡ false → (p : Place) → c8 i p ≡ false
eight_kept i none (place.Cable k) = refl
eight_kept i none (place.Port r p) = refl
eight_kept i none (place.Node k) = refl
eight_kept i none (place.Row r k) = refl
eight_kept i none (place.Missing zero k) = refl
eight_kept i none (place.Missing (suc r) zero) = refl
eight_kept i none (place.Missing (suc r) (suc k)) =
    kept_in (λ router. i.cables) (λ r router k. lacks_list router) i.routers (or_parts _ _ none).1 r k
eight_kept i none (place.List zero k) = refl
eight_kept i none (place.List (suc r) zero) = refl
eight_kept i none (place.List (suc r) (suc k)) =
    kept_in (λ (router : Router). router.lists) (λ r router k. bad_list i) i.routers (or_parts _ _ none).0 r k

nine_kept : (i : Internet) → breaks_nine i ≡ false → (p : Place) → c9 i p ≡ false
nine_kept i none (place.Cable k) = refl
nine_kept i none (place.Port r p) = refl
nine_kept i none (place.Node zero) = refl
nine_kept i none (place.Node (suc k)) = kept_at (λ k. bad_service i) i.nodes none k
nine_kept i none (place.Row r k) = refl
nine_kept i none (place.Missing r k) = refl
nine_kept i none (place.List r k) = refl

ten_kept : (i : Internet) → breaks_ten i ≡ false → (p : Place) → c10 i p ≡ false
ten_kept i none (place.Cable k) = refl
ten_kept i none (place.Port zero p) = refl
ten_kept i none (place.Port (suc r) zero) = refl
ten_kept i none (place.Port (suc r) (suc p)) =
    kept_in (λ (router : Router). router.ports) (λ r router p port. list_any (is_false i port.cable) port.mappings) i.routers
    (or_parts _ _ none).0 r p
ten_kept i none (place.Node zero) = refl
ten_kept i none (place.Node (suc k)) =
    kept_at (λ k node. list_any (is_false i node.cable) node.mappings) i.nodes (or_parts _ _ none).1 k
ten_kept i none (place.Row r k) = refl
ten_kept i none (place.Missing r k) = refl
ten_kept i none (place.List r k) = refl

-- all rules but C7 are kept
pub record KeepsOthers (i : Internet) : Type 0 where
  pub one : breaks_one i ≡ false
  pub two : breaks_two i ≡ false
  pub three : breaks_three i ≡ false
  pub four : breaks_four i ≡ false
  pub five : breaks_five i ≡ false
  pub six : breaks_six i ≡ false
  pub eight : breaks_eight i ≡ false
  pub nine : breaks_nine i ≡ false
  pub ten : breaks_ten i ≡ false

choose : (b x y : Bool) → (b ≡ true → x ≡ false) → (b ≡ false → y ≡ false) → (if b then x else y) ≡ false
choose true x y f g = f refl
choose false x y f g = g refl

-- the rules at a place, where C7 is known to be kept
by_rule : (i : Internet) → KeepsOthers i → (rule : ℕ) (p : Place) → ((rule == 7) ≡ true → c7 i p ≡ false) → breaks i rule p ≡ false
by_rule i kept rule p seven =
    choose (rule == 1) _ _ (λ _. one_kept i kept.one p) (λ _.
    choose (rule == 2) _ _ (λ _. two_kept i kept.two p) (λ _.
    choose (rule == 3) _ _ (λ _. three_kept i kept.three p) (λ _.
    choose (rule == 4) _ _ (λ _. four_kept i kept.four p) (λ _.
    choose (rule == 5) _ _ (λ _. five_kept i kept.five p) (λ _.
    choose (rule == 6) _ _ (λ _. six_kept i kept.six p) (λ _.
    choose (rule == 7) _ _ seven (λ _.
    choose (rule == 8) _ _ (λ _. eight_kept i kept.eight p) (λ _.
    choose (rule == 9) _ _ (λ _. nine_kept i kept.nine p) (λ _.
    choose (rule == 10) _ _ (λ _. ten_kept i kept.ten p) (λ _. refl))))))))))

pub keeps_others : (i : Internet) → KeepsOthers i → (rule : ℕ) → rule ≢ 7 → Keeps i rule
keeps_others i kept rule other p = by_rule i kept rule p (λ e. absurd (other (eqb-true rule 7 e)))

pub passes : (i : Internet) → KeepsOthers i → breaks_seven i ≡ false → Passes i
passes i kept seven rule p = by_rule i kept rule p (λ _. seven_kept i seven p)
