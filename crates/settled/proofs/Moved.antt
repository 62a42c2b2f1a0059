-- What holds of an internet whose rows became others, with the same ranges and distances: it passes, and is settled, as
-- before.
use Rattle.std.proofs.Common.{◌≡◌, ℕ, zero, suc, ◌+◌, inl, inr, Bool, true, false, if◌then◌else◌, cond, ◌&&◌, ◌||◌, not, ◌==◌}
use Rattle.std.proofs.Common.{List, [], ◌∷◌, Option, Some, None, length, map, refl, sym, ap, ◌∙◌, subst, slice_get, is_some, find, arith}
use Rattle.std.proofs.Common.{option_and_then, nat_lt, eq-eqb}
use Rattle.std.specs.List.{list_any}
use Rattle.std.proofs.lemmas.Bool.{and_parts, and_from, not-false, cases_Bool}
use Rattle.at_base.specs.declared.address.Addr.{Addr}
use Rattle.at_base.specs.declared.error.Place.{Place}
use Rattle.at_base.specs.declared.error.Place.TheVariants as place
use Rattle.audit.specs.Places.{on, index_of}
use Rattle.audit.specs.Routing.{owner}
use Rattle.audit.specs.Rules.{at_row, c1, c2, c3, c4, c5, c6, c7, c8, c9, c10, is_for, cable_of, bad_range}
use Rattle.audit.specs.Rules.{lacks_row, port_on, bad_direct, next_router, is_no_other, same_row, not_one_less, bad_step, Passes}
use Rattle.audit.proofs.WalkLists.{At, at_within, at_below, find_at, find_found}
use Rattle.settled.proofs.Bare.{bare, bared, owner_bare, c1_bare, c2_bare, c8_bare, c9_bare, c10_bare}
use Rattle.settled.proofs.Next.{row_test, row_good, direct_good}
use Rattle.settled.proofs.Tests.{any_at}
use Rattle.settled.specs.Moved.{IsMoved, IsMovedRouter, IsMovedTo}
use Rattle.table_image.specs.Internet.{Internet}
use Rattle.table_image.specs.Rows.{is_direct}
use Rattle.table_image.specs.declared.cable.Cable.{Cable}
use Rattle.table_image.specs.declared.port.Port.{Port}
use Rattle.table_image.specs.declared.row.Row.{Row}
use Rattle.table_image.specs.declared.router.Router.{Router}

-- ---- lists of which the elements correspond by their places

-- the lists have the same length, and elements at the same place are so related
record Match {X : Type 0} (R : X → X → Type 0) (xs ys : List X) : Type 0 where
  count : length xs ≡ length ys
  each : (k : ℕ) (x y : X) → At xs k x → At ys k y → R x y

tail_of : {X : Type 0} {R : X → X → Type 0} (x y : X) (xs ys : List X) → Match R (x ∷ xs) (y ∷ ys) → Match R xs ys
tail_of x y xs ys m = record { count = (let same = m.count in omega arith); each = λ k a b ea eb. m.each (suc k) a b ea eb }

-- what is at a place of the one list has a counterpart in the other
partner : {X : Type 0} {R : X → X → Type 0} (xs ys : List X) → Match R xs ys → (k : ℕ) (y : X) → At ys k y → (x : X) × At xs k x × R x y
partner xs ys m k y e =
    let low = at_within ys k y e in
    let same = m.count in
    let w = at_below xs k (omega (arith, low, same)) in
    (w.0, w.1, m.each k w.0 y w.1 e)

counterpart : {X : Type 0} {R : X → X → Type 0} (xs ys : List X) → Match R xs ys → (k : ℕ) (x : X) → At xs k x → (y : X) × At ys k y × R x y
counterpart xs ys m k x e =
    let low = at_within xs k x e in
    let same = m.count in
    let w = at_below ys k (omega (arith, low, same)) in
    (w.0, w.1, m.each k x w.0 e w.1)

-- related elements that give the same give the same list
map_same : {X : Type 0} {R : X → X → Type 0} (f : X → X) → ((x y : X) → R x y → f x ≡ f y) → (xs ys : List X) → Match R xs ys
    → map f xs ≡ map f ys
map_same f h [] [] m = refl
map_same f h [] (y ∷ ys) m = let same = m.count in absurd (omega arith)
map_same f h (x ∷ xs) [] m = let same = m.count in absurd (omega arith)
map_same f h (x ∷ xs) (y ∷ ys) m =
    ap (λ z. z ∷ map f xs) (h x y (m.each zero x y refl refl)) ∙ ap (λ l. f y ∷ l) (map_same f h xs ys (tail_of x y xs ys m))

-- tests that agree on related elements find related elements
find_same : {X : Type 0} {R : X → X → Type 0} (t u : X → Bool) → ((x y : X) → R x y → t x ≡ u y) → (xs ys : List X) → Match R xs ys
    → (x : X) → find t xs ≡ Some x → (y : X) × (find u ys ≡ Some y) × R x y
find_same t u h [] ys m x e = cc
find_same t u h (a ∷ xs) [] m x e = let same = m.count in absurd (omega arith)
find_same {R = R} t u h (a ∷ xs) (b ∷ ys) m x e =
    elim (t a) as (λ c. t a ≡ c → cond c (Some a) (find t xs) ≡ Some x → (y : _) × (find u (b ∷ ys) ≡ Some y) × R x y) [
      | true ↦ λ p q.
          let there : u b ≡ true = sym (h a b (m.each zero a b refl refl)) ∙ p in
          let is : a ≡ x = cc in
          (b, ap (λ c. cond c (Some b) (find u ys)) there, subst (λ z. R z b) is (m.each zero a b refl refl))
      | false ↦ λ p q.
          let there : u b ≡ false = sym (h a b (m.each zero a b refl refl)) ∙ p in
          let w = find_same t u h xs ys (tail_of a b xs ys m) x q in
          (w.0, ap (λ c. cond c (Some b) (find u ys)) there ∙ w.1, w.2)
    ] refl e

-- ---- rules

pick : (b x y : Bool) → x ≡ false → y ≡ false → (if b then x else y) ≡ false
pick true x y e f = e
pick false x y e f = f

-- a row breaks no rule, if it breaks none where it is there
pub row_keeps : (i : Internet) (r k : ℕ) (test : Router → Row → Bool)
    → ((router : Router) (row : Row) → At i.routers r router → At router.rows k row → test router row ≡ false) → at_row i r k test ≡ false
row_keeps i r k test h = by_router (slice_get i.routers r) refl
  where
    by_row : (router : Router) → At i.routers r router → (o : Option Row) → slice_get router.rows k ≡ o → on o (test router) ≡ false
    by_row router er None e = refl
    by_row router er (Some row) e = h router row er e

    by_router : (o : Option Router) → slice_get i.routers r ≡ o → on o (λ router. on (slice_get router.rows k) (test router)) ≡ false
    by_router None e = refl
    by_router (Some router) e = by_row router e (slice_get router.rows k) refl

-- a direct row that keeps its port stays one, and any other row
direct_stays : (a b : Row) (o : Option ℕ) → a.distance ≡ b.distance → is_direct a ≡ is_direct b → (is_direct a ≡ true → a.port ≡ b.port)
    → bad_direct a o ≡ false → bad_direct b o ≡ false
direct_stays a b None far same stays e = ap (λ n. n == 0 || is_direct b) (sym far) ∙ (ap (λ d. a.distance == 0 || d) (sym same) ∙ e)
direct_stays a b (Some p) far same stays e =
    let direct = (and_parts _ _ (not-false _ e)).1 in
    ap (λ n. not (n == 0 && b.port == p && is_direct b)) (sym far)
    ∙ (ap (λ n. not (a.distance == 0 && n == p && is_direct b)) (sym (stays direct))
    ∙ (ap (λ d. not (a.distance == 0 && a.port == p && d)) (sym same) ∙ e))

module _ (i j : Internet) (ok : Passes i) (m : IsMovedTo i j) where
  bare_alike : Match (λ (a b : Router). bare a ≡ bare b) i.routers j.routers
  bare_alike =
      record {
        count = m.count;
        each = λ r a b ea eb.
            let w = m.each r a b ea eb in
            ap (λ p. record { ports = p; rows = []; lists = a.lists }) w.ports ∙ ap (λ l. record { ports = b.ports; rows = []; lists = l }) w.lists;
      }

  bare_same : bared i ≡ bared j
  bare_same =
      ap (λ v. record { version = v; cables = i.cables; routers = map bare i.routers; nodes = i.nodes }) m.version
      ∙ (ap (λ cs. record { version = j.version; cables = cs; routers = map bare i.routers; nodes = i.nodes }) m.cables
      ∙ (ap (λ rs. record { version = j.version; cables = j.cables; routers = rs; nodes = i.nodes })
      (map_same bare (λ a b e. e) i.routers j.routers bare_alike)
      ∙ ap (λ ns. record { version = j.version; cables = j.cables; routers = map bare j.routers; nodes = ns }) m.nodes))

  pub owner_same : (c : ℕ) (a : Addr) → owner i c a ≡ owner j c a
  owner_same c a = sym (owner_bare i c a) ∙ (ap (λ k. owner k c a) bare_same ∙ owner_bare j c a)

  c1_ok : (p : Place) → c1 j p ≡ false
  c1_ok p = sym (c1_bare j p) ∙ (ap (λ k. c1 k p) (sym bare_same) ∙ (c1_bare i p ∙ ok 1 p))

  c2_ok : (p : Place) → c2 j p ≡ false
  c2_ok p = sym (c2_bare j p) ∙ (ap (λ k. c2 k p) (sym bare_same) ∙ (c2_bare i p ∙ ok 2 p))

  c8_ok : (p : Place) → c8 j p ≡ false
  c8_ok p = sym (c8_bare j p) ∙ (ap (λ k. c8 k p) (sym bare_same) ∙ (c8_bare i p ∙ ok 8 p))

  c9_ok : (p : Place) → c9 j p ≡ false
  c9_ok p = sym (c9_bare j p) ∙ (ap (λ k. c9 k p) (sym bare_same) ∙ (c9_bare i p ∙ ok 9 p))

  c10_ok : (p : Place) → c10 j p ≡ false
  c10_ok p = sym (c10_bare j p) ∙ (ap (λ k. c10 k p) (sym bare_same) ∙ (c10_bare i p ∙ ok 10 p))

  -- the router and the row that a router's row was before
  pub record Was (r k : ℕ) (router : Router) (row : Row) : Type 0 where
    pub old : Router
    pub old_at : At i.routers r old
    pub moved : IsMovedRouter i r old router
    pub before : Row
    pub before_at : At old.rows k before
    pub row_moved : IsMoved i r old before row

  pub old_router : (r : ℕ) (router : Router) → At j.routers r router → (old : Router) × At i.routers r old × IsMovedRouter i r old router
  old_router r router er =
      let low = at_within j.routers r router er in
      let same = m.count in
      let w = at_below i.routers r (omega (arith, low, same)) in
      (w.0, w.1, m.each r w.0 router w.1 er)

  rows_match : (r : ℕ) (old router : Router) → IsMovedRouter i r old router → Match (IsMoved i r old) old.rows router.rows
  rows_match r old router w = record { count = w.count; each = w.rows }

  pub was : (r k : ℕ) (router : Router) (row : Row) → At j.routers r router → At router.rows k row → Was r k router row
  was r k router row er ek =
      let o = old_router r router er in
      let w = partner o.0.rows router.rows (rows_match r o.0 router o.2) k row ek in
      record { old = o.0; old_at = o.1; moved = o.2; before = w.0; before_at = w.1; row_moved = w.2 }

  cable_same : (r : ℕ) (router : Router) (a b : Row) → IsMoved i r router a b → cable_of i a ≡ cable_of j b
  cable_same r router a b w =
      ap (λ n. index_of (λ (c : Cable). n == c.start && a.end == c.end) i.cables) w.start
      ∙ (ap (λ n. index_of (λ (c : Cable). b.start == c.start && n == c.end) i.cables) w.end
      ∙ ap (index_of (λ (c : Cable). b.start == c.start && b.end == c.end)) m.cables)

  for_same : (r : ℕ) (router : Router) (a b : Row) (c : Cable) → IsMoved i r router a b → is_for a c ≡ is_for b c
  for_same r router a b c w = ap (λ n. n == c.start && a.end == c.end) w.start ∙ ap (λ n. b.start == c.start && n == c.end) w.end

  range_ok : (r k : ℕ) (router : Router) (row : Row) → At j.routers r router → At router.rows k row → bad_range j router row ≡ false
  range_ok r k router row er ek =
      let w = was r k router row er ek in
      let g = row_good i ok r k w.old w.before w.old_at w.before_at in
      ap not (and_from _ _ w.row_moved.usable
      (ap is_some (sym (cable_same r w.old w.before row w.row_moved) ∙ g.1.1)))

  has_row : (r k : ℕ) (router : Router) (c : Cable) → At j.routers r router → At j.cables k c → lacks_row router c ≡ false
  has_row r k router c er ec =
      let o = old_router r router er in
      let ec0 : At i.cables k c = subst (λ cs. At cs k c) (sym m.cables) ec in
      let before : list_any (λ row. is_for row c) o.0.rows ≡ true =
      not-false _ (sym (ap (λ q. on q (λ router. on (slice_get i.cables k) (lacks_row router))) o.1 ∙ ap (λ q. on q (lacks_row o.0)) ec0)
      ∙ ok 3 (place.Missing (suc r) (suc k))) in
      let f = find_found _ o.0.rows before in
      let g = find_at _ o.0.rows f.0 f.1 in
      let h = counterpart o.0.rows router.rows (rows_match r o.0 router o.2) g.0 f.0 g.1 in
      ap not (any_at (λ row. is_for row c) router.rows g.0 h.0 h.1 (sym (for_same r o.0 f.0 h.0 c h.2) ∙ g.2))

  c3_ok : (p : Place) → c3 j p ≡ false
  c3_ok (place.Row zero k) = refl
  c3_ok (place.Row (suc r) zero) = refl
  c3_ok (place.Row (suc r) (suc k)) = row_keeps j r k (bad_range j) (range_ok r k)
  c3_ok (place.Missing zero k) = refl
  c3_ok (place.Missing (suc r) zero) = refl
  c3_ok (place.Missing (suc r) (suc k)) = by_router (slice_get j.routers r) refl
    where
      by_cable : (router : Router) → At j.routers r router → (o : Option Cable) → slice_get j.cables k ≡ o → on o (lacks_row router) ≡ false
      by_cable router er None e = refl
      by_cable router er (Some c) e = has_row r k router c er e

      by_router : (o : Option Router) → slice_get j.routers r ≡ o → on o (λ router. on (slice_get j.cables k) (lacks_row router)) ≡ false
      by_router None e = refl
      by_router (Some router) e = by_cable router e (slice_get j.cables k) refl
  c3_ok (place.Cable k) = refl
  c3_ok (place.Port r p) = refl
  c3_ok (place.Node k) = refl
  c3_ok (place.List r k) = refl

  direct_ok : (r k : ℕ) (router : Router) (row : Row) → At j.routers r router → At router.rows k row
      → on (cable_of j row) (λ c. bad_direct row (port_on router c)) ≡ false
  direct_ok r k router row er ek =
      let w = was r k router row er ek in
      let g = (row_good i ok r k w.old w.before w.old_at w.before_at).1 in
      let same = cable_same r w.old w.before row w.row_moved in
      let before = direct_good i ok r k w.old w.before g.0 w.old_at w.before_at g.1 in
      let ports : port_on w.old g.0 ≡ port_on router g.0 = ap (index_of (λ (p : Port). p.cable == g.0)) w.moved.ports in
      ap (λ o. on o (λ c. bad_direct row (port_on router c))) (sym same ∙ g.1)
      ∙ direct_stays w.before row (port_on router g.0) w.row_moved.distance w.row_moved.direct w.row_moved.stays
      (ap (bad_direct w.before) (sym ports) ∙ before)

  far_ok : (r k : ℕ) (router : Router) (row : Row) → At j.routers r router → At router.rows k row → nat_lt 14 row.distance ≡ false
  far_ok r k router row er ek =
      let w = was r k router row er ek in
      ap (nat_lt 14) (sym w.row_moved.distance)
      ∙ (sym (row_test i ok r k w.old w.before (λ router row. nat_lt 14 row.distance) w.old_at w.before_at) ∙ ok 5 (place.Row (suc r) (suc k)))

  -- the next router of a row that isn't direct
  next_ok : (r k : ℕ) (router : Router) (row : Row) → At j.routers r router → At router.rows k row → is_direct row ≡ false
      → (is_no_other r (next_router j router row) ≡ false) × (bad_step j row (next_router j router row) ≡ false)
  next_ok r k router row er ek indirect =
      let w = was r k router row er ek in
      let way = w.row_moved.leads indirect in
      let ep : At router.ports row.port way.port = subst (λ ps. At ps row.port way.port) w.moved.ports way.port_at in
      let next : next_router j router row ≡ Some way.next =
      ap (option_and_then (λ (port : Port). owner j port.cable row.next)) ep ∙ (sym (owner_same way.port.cable row.next) ∙ way.owned) in
      let their = their_row row way.next way.nearer way.found in (
        ap (is_no_other r) next ∙ way.other,
        ap (bad_step j row) next ∙ (ap (not_one_less row) their.1
            ∙ ap not (eq-eqb _ _ (ap (λ n. n + 1) (sym their.2) ∙ way.one_less))),
      )
    where
      -- the row of the same range that the router had before has a counterpart at the same distance
      their_row : (row : Row) (s : ℕ) (o : Row) → same_row (slice_get i.routers s) row ≡ Some o
          → (now : Row) × (same_row (slice_get j.routers s) row ≡ Some now) × (o.distance ≡ now.distance)
      their_row row s o found = by_router (slice_get i.routers s) refl found
        where
          by_router : (q : Option Router) → slice_get i.routers s ≡ q → same_row q row ≡ Some o
              → (now : Row) × (same_row (slice_get j.routers s) row ≡ Some now) × (o.distance ≡ now.distance)
          by_router None e f = cc
          by_router (Some old) e f =
              let low = at_within i.routers s old e in
              let same = m.count in
              let new = at_below j.routers s (omega (arith, low, same)) in
              let moved = m.each s old new.0 e new.1 in
              let h =
              find_same (λ other. other.start == row.start && other.end == row.end) (λ other. other.start == row.start && other.end == row.end)
              (λ a b w. ap (λ n. n == row.start && a.end == row.end) w.start ∙ ap (λ n. b.start == row.start && n == row.end) w.end) old.rows
              new.0.rows (rows_match s old new.0 moved) o f in
              (h.0, ap (λ q. same_row q row) new.1 ∙ h.1, h.2.distance)

  next_other_ok : (r k : ℕ) (router : Router) (row : Row) → At j.routers r router → At router.rows k row
      → (not (is_direct row) && is_no_other r (next_router j router row)) ≡ false
  next_other_ok r k router row er ek =
      elim (cases_Bool (is_direct row)) [
        | inl direct ↦ ap (λ b. not b && is_no_other r (next_router j router row)) direct
        | inr indirect ↦ ap (λ b. not b && is_no_other r (next_router j router row)) indirect ∙ (next_ok r k router row er ek indirect).0
      ]

  step_ok : (r k : ℕ) (router : Router) (row : Row) → At j.routers r router → At router.rows k row
      → (not (is_direct row) && bad_step j row (next_router j router row)) ≡ false
  step_ok r k router row er ek =
      elim (cases_Bool (is_direct row)) [
        | inl direct ↦ ap (λ b. not b && bad_step j row (next_router j router row)) direct
        | inr indirect ↦ ap (λ b. not b && bad_step j row (next_router j router row)) indirect ∙ (next_ok r k router row er ek indirect).1
      ]

  -- a rule that only rows can break
  rows_ok : (test : ℕ → Router → Row → Bool) → ((r k : ℕ) (router : Router) (row : Row) → At j.routers r router → At router.rows k row
      → test r router row ≡ false) → (r k : ℕ) → at_row j r k (test r) ≡ false
  rows_ok test h r k = row_keeps j r k (test r) (h r k)

  c4_ok : (p : Place) → c4 j p ≡ false
  c4_ok (place.Row zero k) = refl
  c4_ok (place.Row (suc r) zero) = refl
  c4_ok (place.Row (suc r) (suc k)) = rows_ok (λ r router row. on (cable_of j row) (λ c. bad_direct row (port_on router c))) direct_ok r k
  c4_ok (place.Missing r k) = refl
  c4_ok (place.Cable k) = refl
  c4_ok (place.Port r p) = refl
  c4_ok (place.Node k) = refl
  c4_ok (place.List r k) = refl

  c5_ok : (p : Place) → c5 j p ≡ false
  c5_ok (place.Row zero k) = refl
  c5_ok (place.Row (suc r) zero) = refl
  c5_ok (place.Row (suc r) (suc k)) = rows_ok (λ r router row. nat_lt 14 row.distance) far_ok r k
  c5_ok (place.Missing r k) = refl
  c5_ok (place.Cable k) = refl
  c5_ok (place.Port r p) = refl
  c5_ok (place.Node k) = refl
  c5_ok (place.List r k) = refl

  c6_ok : (p : Place) → c6 j p ≡ false
  c6_ok (place.Row zero k) = refl
  c6_ok (place.Row (suc r) zero) = refl
  c6_ok (place.Row (suc r) (suc k)) = rows_ok (λ r router row. not (is_direct row) && is_no_other r (next_router j router row)) next_other_ok r k
  c6_ok (place.Missing r k) = refl
  c6_ok (place.Cable k) = refl
  c6_ok (place.Port r p) = refl
  c6_ok (place.Node k) = refl
  c6_ok (place.List r k) = refl

  c7_ok : (p : Place) → c7 j p ≡ false
  c7_ok (place.Row zero k) = refl
  c7_ok (place.Row (suc r) zero) = refl
  c7_ok (place.Row (suc r) (suc k)) = rows_ok (λ r router row. not (is_direct row) && bad_step j row (next_router j router row)) step_ok r k
  c7_ok (place.Missing r k) = refl
  c7_ok (place.Cable k) = refl
  c7_ok (place.Port r p) = refl
  c7_ok (place.Node k) = refl
  c7_ok (place.List r k) = refl

  pub still_passes : Passes j
  still_passes rule p =
      pick (rule == 1) _ _ (c1_ok p) (pick (rule == 2) _ _ (c2_ok p) (pick (rule == 3) _ _ (c3_ok p) (pick (rule == 4) _ _ (c4_ok p)
      (pick (rule == 5) _ _ (c5_ok p) (pick (rule == 6) _ _ (c6_ok p) (pick (rule == 7) _ _ (c7_ok p) (pick (rule == 8) _ _ (c8_ok p)
      (pick (rule == 9) _ _ (c9_ok p) (pick (rule == 10) _ _ (c10_ok p) refl)))))))))
