-- Routing data of a neighbour leaves rows Good that are, and makes those Good that it tells of at the right distance.
use Rattle.std.proofs.Common.{◌≡◌, ◌⊎◌, inl, inr, ℕ, zero, suc, ◌+◌, ◌≤◌, ◌==◌, Bool, true, false, not, ◌||◌, ◌&&◌, cond, if◌then◌else◌}
use Rattle.std.proofs.Common.{List, [], ◌∷◌, refl, sym, ap, ◌∙◌, subst, slice_get, arith, nat_lt, eqb-true, eq-eqb}
use Rattle.std.specs.Prelude.{nat_le, slice_set}
use Rattle.std.specs.List.{list_any, AllByRecursion as Each}
use Rattle.std.proofs.lemmas.Bool.{and_from, and_parts, cases_eq, le-leb, leb-true, ltb-false, not-false}
use Rattle.at_base.proofs.Spans.{at_place}
use Rattle.at_base.specs.Address.{same_address}
use Rattle.at_base.specs.Range.{Span, same_range as same_span}
use Rattle.at_base.specs.Spans.{IsAt, before}
use Rattle.at_base.specs.declared.address.Addr.{Addr}
use Rattle.at_base.specs.declared.error.Place.TheVariants as place
use Rattle.audit.proofs.WalkLists.{At, at_below, at_one, at_within, find_at, find_found, index_at}
use Rattle.audit.specs.Places.{on}
use Rattle.audit.specs.Rules.{Passes, is_for, lacks_row}
use Rattle.rtmp.proofs.Heard.{there}
use Rattle.rtmp.specs.Routes.{after_hearing, heard, heard_packet, heard_row, heard_within, is_direct}
use Rattle.rtmp.specs.States.{is_usable}
use Rattle.rtmp.specs.declared.row.Row.{Row as RouteRow}
use Rattle.rtmp.specs.declared.state.State.TheVariants.{Bad, Good}
use Rattle.rtmp.specs.declared.table.Change.{Change}
use Rattle.rtmp.specs.declared.table.Change.TheVariants.{Ignored, Changed, Added}
use Rattle.rtmp.specs.declared.tuple.Tuple.{Tuple}
use Rattle.settled.proofs.Exchange.{IsTupleOf, one_heard, place_is}
use Rattle.settled.proofs.Next.{row_good, row_test}
use Rattle.settled.specs.Exchange.{AreMovedRows, AreNeighbours}
use Rattle.settled.specs.Settling.{IsSettled}
use Rattle.table_image.specs.Bounds.{IsBounded}
use Rattle.table_image.specs.Internet.{Internet}
use Rattle.table_image.specs.declared.cable.Cable.{Cable}
use Rattle.table_image.specs.declared.router.Router.{Router}
use Rattle.table_image.specs.declared.row.Row.{Row}

-- ---- One row

-- the row is direct, or Good
abbrev pub IsFresh : RouteRow → Type 0
IsFresh c = is_direct c ≡ false → c.state ≡ Good

-- the row with this index is
abbrev pub IsFreshAt : ℕ → List RouteRow → Type 0
IsFreshAt k rows = (c : RouteRow) → At rows k c → IsFresh c

-- what hearing gives, by its tests
by_own : (o : Bool) (row : RouteRow) (t : ℕ) (s : Addr) (port : ℕ) → nat_le t 14 ≡ true → IsFresh row
    → IsFresh (cond {A = RouteRow × Change} o (if nat_le t 14 then heard_row row.range t s port else record row { state = Bad }, Changed) (row, Ignored)).0
by_own true row t s port low fresh = rw low (λ d. refl)
by_own false row t s port low fresh = fresh

by_near : (n o : Bool) (row : RouteRow) (t : ℕ) (s : Addr) (port : ℕ) → nat_le t 14 ≡ true → (n ≡ true) ⊎ IsFresh row
    → IsFresh (cond {A = RouteRow × Change} n (heard_row row.range t s port, Changed)
    (cond o (if nat_le t 14 then heard_row row.range t s port else record row { state = Bad }, Changed) (row, Ignored))).0
by_near true o row t s port low h = λ d. refl
by_near false o row t s port low (inl e) = cc
by_near false o row t s port low (inr fresh) = by_own o row t s port low fresh

by_direct : (d n o : Bool) (row : RouteRow) (t : ℕ) (s : Addr) (port : ℕ) → is_direct row ≡ d → nat_le t 14 ≡ true → (n ≡ true) ⊎ IsFresh row
    → IsFresh (cond {A = RouteRow × Change} d (row, Ignored) (cond n (heard_row row.range t s port, Changed)
    (cond o (if nat_le t 14 then heard_row row.range t s port else record row { state = Bad }, Changed) (row, Ignored)))).0
by_direct true n o row t s port e low h = λ f. let bad : true ≡ false = sym e ∙ f in cc
by_direct false n o row t s port e low h = by_near n o row t s port low h

-- a row that hears of its range, if it was fresh, or hears of it as near as it is
after_fresh : (row : RouteRow) (t : ℕ) (s : Addr) (port : ℕ) → t ≤ 14 → (t + 1 ≤ row.distance) ⊎ IsFresh row
    → IsFresh (after_hearing row t s port).0
after_fresh row t s port low h =
    let near : nat_le t 14 ≡ true = le-leb t 14 low in
    by_direct (is_direct row) (nat_le t 14 && (not (is_usable row.state) || nat_le (t + 1) row.distance)) (same_address row.next s && row.port == port)
    row t s port refl near (by near h)
  where
    or_true : (b : Bool) → (b || true) ≡ true
    or_true true = refl
    or_true false = refl

    by : nat_le t 14 ≡ true → (t + 1 ≤ row.distance) ⊎ IsFresh row
        → ((nat_le t 14 && (not (is_usable row.state) || nat_le (t + 1) row.distance)) ≡ true) ⊎ IsFresh row
    by near (inl le) =
        inl (and_from (nat_le t 14) _ near
        (ap (λ b. not (is_usable row.state) || b) (le-leb (t + 1) row.distance le) ∙ or_true (not (is_usable row.state))))
    by near (inr f) = inr f

-- hearing of a range that has a row adds none
within_is : (range : Span) (t : ℕ) (s : Addr) (port : ℕ) (rows : List RouteRow) → ((heard range t s port rows).1 ≡ Added → ⊥)
    → heard_within range t s port rows ≡ (heard range t s port rows).0
within_is range t s port rows none = by (heard range t s port rows).1 refl
  where
    by : (ch : Change) → (heard range t s port rows).1 ≡ ch → heard_within range t s port rows ≡ (heard range t s port rows).0
    by Added e = absurd (none e)
    by Changed e = rw e refl
    by Ignored e = rw e refl

get_set : {X : Type 0} (xs : List X) (k : ℕ) (d c : X) → At xs k c → At (slice_set xs k d) k d
get_set [] k d c e = cc
get_set (x ∷ xs) zero d c e = refl
get_set (x ∷ xs) (suc k) d c e = get_set xs k d c e

get_set_other : {X : Type 0} (xs : List X) (k l : ℕ) (d : X) → (l ≡ k → ⊥) → slice_get (slice_set xs k d) l ≡ slice_get xs l
get_set_other [] k l d other = refl
get_set_other (x ∷ xs) zero zero d other = absurd (other refl)
get_set_other (x ∷ xs) zero (suc l) d other = refl
get_set_other (x ∷ xs) (suc k) zero d other = refl
get_set_other (x ∷ xs) (suc k) (suc l) d other = get_set_other xs k l d (λ e. other (ap suc e))

span_same : (y z : Span) → y.start ≡ z.start → y.end ≡ z.end → y ≡ z
span_same y z e f =
    let span : ℕ → ℕ → Span = λ start end. record { start = start; end = end } in
    ap (λ n. span n y.end) e ∙ ap (span z.start) f

module _ (i : Internet) (ok : Passes i) (settled : IsSettled i) (bounded : IsBounded i) where
  -- a router has a row for each cable
  pub row_for_cable : (r : ℕ) (x : Router) (c : ℕ) (cable : Cable) → At i.routers r x → At i.cables c cable
      → (k : ℕ) × (a : Row) × At x.rows k a × (is_for a cable ≡ true)
  row_for_cable r x c cable er ec =
      let any : list_any (λ row. is_for row cable) x.rows ≡ true =
      not-false _ (sym (ap (λ q. on q (λ router. on (slice_get i.cables c) (lacks_row router))) er ∙ ap (λ q. on q (lacks_row x)) ec)
      ∙ ok 3 (place.Missing (suc r) (suc c))) in
      let f = find_found _ x.rows any in
      let g = find_at _ x.rows f.0 f.1 in
      (g.0, f.0, g.1, g.2)

  pub ends_for : (a : Row) (c : Cable) → is_for a c ≡ true → (a.start ≡ c.start) × (a.end ≡ c.end)
  ends_for a c e = let w = and_parts (a.start == c.start) (a.end == c.end) e in (eqb-true _ _ w.0, eqb-true _ _ w.1)

  -- and so a row for the range of another's row
  row_like : (r : ℕ) (x : Router) → At i.routers r x → (s l : ℕ) (their : Router) (o : Row) → At i.routers s their → At their.rows l o
      → (k : ℕ) × (a : Row) × At x.rows k a × (o.start ≡ a.start) × (o.end ≡ a.end)
  row_like r x er s l their o es el =
      let good = (row_good i ok s l their o es el).1 in
      let w = index_at (is_for o) i.cables good.0 good.1 in
      let mine = row_for_cable r x good.0 w.0 er w.1 in
      let its = ends_for o w.0 w.2 in
      let own = ends_for mine.1 w.0 mine.3 in
      (mine.0, mine.1, mine.2, its.0 ∙ sym own.0, its.1 ∙ sym own.1)

  -- a row of the image is at most 14 routers away
  pub near_row : (s l : ℕ) (their : Router) (o : Row) → At i.routers s their → At their.rows l o → o.distance ≤ 14
  near_row s l their o es el =
      ltb-false 14 o.distance (sym (row_test i ok s l their o (λ router row. nat_lt 14 row.distance) es el) ∙ ok 5 (place.Row (suc s) (suc l)))

  module _ (r n s q : ℕ) (range : Span) (w : AreNeighbours i r n s q range) where
    -- where one tuple is heard: the row of its range becomes another, and no other row changes
    pub record HearsOne (rows : List RouteRow) (t : Tuple) : Type 0 where
      pub k : ℕ
      pub a : Row
      pub a_at : At w.router.rows k a
      pub c : RouteRow
      pub c_at : At rows k c
      pub start : t.range.start ≡ a.start
      pub end : t.range.end ≡ a.end
      pub low : t.distance ≤ 14
      pub after : heard_within t.range t.distance w.their_port.address n rows ≡ slice_set rows k (after_hearing c t.distance w.their_port.address n).0

    hears_one : (rows : List RouteRow) → AreMovedRows i r w.router rows → (t : Tuple) → IsTupleOf i ok settled bounded s w.their t → HearsOne rows t
    hears_one rows m t told =
        let like = row_like r w.router w.router_at s told.place w.their told.row w.their_at told.row_at in
        let k = like.0 in
        let a = like.1 in
        let low = at_within w.router.rows k a like.2 in
        let same = m.count in
        let now = at_below rows k (omega (arith, low, same)) in
        let c = now.0 in
        let moved = m.each k a c like.2 now.1 in
        let start : t.range.start ≡ a.start = ap (λ (z : Span). z.start) told.range ∙ like.3 in
        let end : t.range.end ≡ a.end = ap (λ (z : Span). z.end) told.range ∙ like.4 in
        let ranges : c.range ≡ t.range = span_same c.range t.range (sym moved.start ∙ sym start) (sym moved.end ∙ sym end) in
        let here : before (λ (z : RouteRow). z.range) t.range.start rows ≡ k =
        subst (λ (z : Span). before (λ (y : RouteRow). y.range) z.start rows ≡ k) ranges (place_is rows k c m.table now.1) in
        let at : IsAt (λ (z : RouteRow). z.range) t.range rows k =
        subst (IsAt (λ (z : RouteRow). z.range) t.range rows) here
        (at_place (λ (z : RouteRow). z.range) t.range rows c (ap (slice_get rows) here ∙ now.1)
        (subst (λ (z : Span). same_span c.range z ≡ true) ranges (and_from _ _ (eq-eqb c.range.start c.range.start refl) (eq-eqb c.range.end c.range.end refl)))) in
        let item : at.item ≡ c = at_one rows k at.item c at.is now.1 in
        let h = there t.range t.distance w.their_port.address n rows k c at m.table item in
        let near = near_row s told.place w.their told.row w.their_at told.row_at in
        let far = told.far in
        record {
          k = k;
          a = a;
          a_at = like.2;
          c = c;
          c_at = now.1;
          start = start;
          end = end;
          low = omega (arith, near, far);
          after = within_is t.range t.distance w.their_port.address n rows h.old ∙ ap (λ (z : List RouteRow × Change). z.0) h.is;
        }

    still_moved : (rows : List RouteRow) → AreMovedRows i r w.router rows → (t : Tuple) → IsTupleOf i ok settled bounded s w.their t
        → AreMovedRows i r w.router (heard_within t.range t.distance w.their_port.address n rows)
    still_moved rows m t told = by _
      where
        by : (full : Bool) → AreMovedRows i r w.router (cond full rows (heard t.range t.distance w.their_port.address n rows).0)
        by true = m
        by false = one_heard i ok settled bounded r n s q range w rows m t told

    -- a row that is fresh stays so
    keeps_one : (rows : List RouteRow) → AreMovedRows i r w.router rows → (t : Tuple) → IsTupleOf i ok settled bounded s w.their t
        → (l : ℕ) → IsFreshAt l rows → IsFreshAt l (heard_within t.range t.distance w.their_port.address n rows)
    keeps_one rows m t told l fresh d ed =
        let h = hears_one rows m t told in
        let there : At (slice_set rows h.k (after_hearing h.c t.distance w.their_port.address n).0) l d = subst (λ z. At z l d) h.after ed in
        elim (cases_eq l h.k) [
          | inr other ↦ fresh d (sym (get_set_other rows h.k l _ (λ e. absurd (other e))) ∙ there)
          | inl same ↦
              let here : At (slice_set rows h.k (after_hearing h.c t.distance w.their_port.address n).0) h.k d =
              subst (λ z. At (slice_set rows h.k (after_hearing h.c t.distance w.their_port.address n).0) z d) same there in
              let is : (after_hearing h.c t.distance w.their_port.address n).0 ≡ d =
              at_one _ h.k _ d (get_set rows h.k (after_hearing h.c t.distance w.their_port.address n).0 h.c h.c_at) here in
              subst IsFresh is
              (after_fresh h.c t.distance w.their_port.address n h.low (inr (fresh h.c (subst (λ z. At rows z h.c) (sym same) h.c_at))))
        ]

    -- a row whose range is told of, one router nearer, becomes fresh
    makes_one : (rows : List RouteRow) → AreMovedRows i r w.router rows → (t : Tuple) → IsTupleOf i ok settled bounded s w.their t
        → (l : ℕ) (a : Row) → At w.router.rows l a → t.range.start ≡ a.start → t.distance + 1 ≡ a.distance
        → IsFreshAt l (heard_within t.range t.distance w.their_port.address n rows)
    makes_one rows m t told l a ea start far d ed =
        let h = hears_one rows m t told in
        let same : l ≡ h.k = one_place l h.k a h.a ea h.a_at (sym start ∙ h.start) in
        let there : At (slice_set rows h.k (after_hearing h.c t.distance w.their_port.address n).0) h.k d =
        subst (λ z. At (slice_set rows h.k (after_hearing h.c t.distance w.their_port.address n).0) z d) same (subst (λ z. At z l d) h.after ed) in
        let is : (after_hearing h.c t.distance w.their_port.address n).0 ≡ d =
        at_one _ h.k _ d (get_set rows h.k (after_hearing h.c t.distance w.their_port.address n).0 h.c h.c_at) there in
        let row : a ≡ h.a = at_one w.router.rows h.k a h.a (subst (λ z. At w.router.rows z a) same ea) h.a_at in
        let mine = (m.each h.k h.a h.c h.a_at h.c_at).distance in
        let its : a.distance ≡ h.a.distance = ap (λ (z : Row). z.distance) row in
        subst IsFresh is (after_fresh h.c t.distance w.their_port.address n h.low (inl (omega (arith, far, mine, its))))
      where
        one_place : (j k : ℕ) (x y : Row) → At w.router.rows j x → At w.router.rows k y → x.start ≡ y.start → j ≡ k
        one_place j k x y ej ek e =
            let rising = (bounded.each r w.router w.router_at).rising in
            elim (Rattle.std.proofs.lemmas.Bool.cases_lt j k) [
              | inl lt ↦ let less = rising j k x y ej ek lt in absurd (omega (arith, less, e))
              | inr le ↦ elim (Rattle.std.proofs.lemmas.Bool.cases_lt k j) [
                | inl lt ↦ let less = rising k j y x ek ej lt in absurd (omega (arith, less, e))
                | inr ge ↦ omega (arith, le, ge)
              ]
            ]

    pub keeps_all : (tuples : List Tuple) → Each (IsTupleOf i ok settled bounded s w.their) tuples → (rows : List RouteRow) → AreMovedRows i r w.router rows
        → (l : ℕ) → IsFreshAt l rows → IsFreshAt l (heard_packet w.their_port.address n tuples rows)
    keeps_all [] told rows m l fresh = fresh
    keeps_all (t ∷ tuples) told rows m l fresh =
        keeps_all tuples told.1 (heard_within t.range t.distance w.their_port.address n rows) (still_moved rows m t told.0) l
        (keeps_one rows m t told.0 l fresh)

    pub makes_all : (tuples : List Tuple) → Each (IsTupleOf i ok settled bounded s w.their) tuples → (rows : List RouteRow) → AreMovedRows i r w.router rows
        → (l : ℕ) (a : Row) → At w.router.rows l a → (j : ℕ) (t : Tuple) → At tuples j t → t.range.start ≡ a.start → t.distance + 1 ≡ a.distance
        → IsFreshAt l (heard_packet w.their_port.address n tuples rows)
    makes_all [] told rows m l a ea j t e start far = cc
    makes_all (u ∷ tuples) told rows m l a ea zero t e start far =
        let is : u ≡ t = cc in
        keeps_all tuples told.1 (heard_within u.range u.distance w.their_port.address n rows) (still_moved rows m u told.0) l
        (makes_one rows m u told.0 l a ea (ap (λ (z : Tuple). z.range.start) is ∙ start) (ap (λ (z : Tuple). z.distance + 1) is ∙ far))
    makes_all (u ∷ tuples) told rows m l a ea (suc j) t e start far =
        makes_all tuples told.1 (heard_within u.range u.distance w.their_port.address n rows) (still_moved rows m u told.0) l a ea j t e start far
