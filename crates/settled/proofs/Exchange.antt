-- Routing data of neighbours, and ageing, change no more of the rows of a settled internet than what may move.
use Rattle.std.proofs.Common.{◌≡◌, ℕ, zero, suc, ◌+◌, ◌*◌, ◌<◌, ◌≤◌, ◌%◌, inl, inr, Bool, true, false, if◌then◌else◌, cond, ◌||◌, not, ◌==◌}
use Rattle.std.proofs.Common.{List, [], ◌∷◌, Some, None, Option, length, map, filter, take, drop, refl, sym, ap, ◌∙◌, subst, arith, slice_get}
use Rattle.std.proofs.Common.{nat_lt, eqb-true, eq-eqb, get_or}
use Rattle.std.specs.Prelude.{slice_set}
use Rattle.std.specs.List.{list_any}
use Rattle.std.proofs.lemmas.Bool.{and_parts, and_from, cases_eq, not-false}
use Rattle.std.proofs.lemmas.List.{length-map, length-set}
use Rattle.std.proofs.Math.Bool.{and-false}
use Rattle.std.proofs.lemmas.Option.{same_Some, slice_get-get_or, slice_get_within}
use Rattle.std.proofs.Math.Nat.{add-mul-mod_self_left, mod-eq_of_lt}
use Rattle.at_base.specs.Range.{Span, same_range as same_span}
use Rattle.at_base.specs.Spans.{AreApart, IsAt, before}
use Rattle.at_base.proofs.Spans.{at_place, before_over, before_under}
use Rattle.at_base.specs.declared.error.Place.TheVariants as place
use Rattle.audit.specs.Places.{on}
use Rattle.audit.specs.Rules.{bad_direct, is_for, lacks_row, same_row, Passes}
use Rattle.audit.proofs.CableOrder.{only_cable}
use Rattle.audit.proofs.WalkLists.{At, at_map, at_within, at_below, at_one, find_at, find_found, index_at, index_found}
use Rattle.learning.specs.Heard.{routes_after, is_from_neighbour}
use Rattle.rtmp.proofs.Heard.{there}
use Rattle.rtmp.proofs.Maps.{aged_map, rows_apart}
use Rattle.rtmp.specs.Data.{RoutingData, data_of, tuples_of, written_of}
use Rattle.rtmp.specs.Routes.{IsRouteMap, after_hearing, aged, aged_row, heard, heard_packet, heard_within, is_direct, is_over, older}
use Rattle.rtmp.specs.Sending.{own_tuple, packet_numbered, rows_sent, sent_tuple}
use Rattle.rtmp.specs.declared.request.Horizon.TheVariants.{Split}
use Rattle.rtmp.specs.declared.tuple.Nonextended.TheVariants.{Skipped}
use Rattle.rtmp.specs.States.{is_usable}
use Rattle.rtmp.specs.declared.row.Row.{Row as RouteRow}
use Rattle.rtmp.specs.declared.state.State.{State}
use Rattle.rtmp.specs.declared.state.State.TheVariants.{Good}
use Rattle.rtmp.specs.declared.table.Change.{Change}
use Rattle.rtmp.specs.declared.tuple.Tuple.{Tuple}
use Rattle.settled.proofs.Hearing.{hears}
use Rattle.settled.proofs.Next.{direct_good, row_good, same_when}
use Rattle.settled.specs.Exchange.{AreMovedRows, AreNeighbours, image_row}
use Rattle.settled.specs.Moved.{IsMoved}
use Rattle.settled.specs.Offers.{same_range}
use Rattle.settled.specs.Settling.{IsSettled}
use Rattle.table_image.specs.Bounds.{IsBounded}
use Rattle.table_image.specs.Internet.{Internet}
use Rattle.table_image.specs.declared.cable.Cable.{Cable}
use Rattle.table_image.specs.declared.port.Port.{Port}
use Rattle.table_image.specs.declared.row.Row.{Row}
use Rattle.table_image.specs.declared.router.Router.{Router}

-- ---- each element of a list

abbrev Each : {X : Type 0} → (X → Type 0) → List X → Type 0
Each P [] = Unit {0}
Each P (x ∷ xs) = P x × Each P xs

each_of : {X : Type 0} (P : X → Type 0) (xs : List X) → ((k : ℕ) (x : X) → At xs k x → P x) → Each P xs
each_of P [] h = tt
each_of P (x ∷ xs) h = (h zero x refl, each_of P xs (λ k y e. h (suc k) y e))

each_filter : {X : Type 0} (P : X → Type 0) (f : X → Bool) (xs : List X) → Each P xs → Each P (filter f xs)
each_filter P f [] h = tt
each_filter P f (x ∷ xs) h =
    elim (f x) as (λ b. Each P (if b then x ∷ filter f xs else filter f xs)) [
      | true ↦ (h.0, each_filter P f xs h.1)
      | false ↦ each_filter P f xs h.1
    ]

each_take : {X : Type 0} (P : X → Type 0) (n : ℕ) (xs : List X) → Each P xs → Each P (take n xs)
each_take P zero [] h = tt
each_take P zero (x ∷ xs) h = tt
each_take P (suc n) [] h = tt
each_take P (suc n) (x ∷ xs) h = (h.0, each_take P n xs h.1)

each_drop : {X : Type 0} (P : X → Type 0) (n : ℕ) (xs : List X) → Each P xs → Each P (drop n xs)
each_drop P zero [] h = tt
each_drop P zero (x ∷ xs) h = h
each_drop P (suc n) [] h = tt
each_drop P (suc n) (x ∷ xs) h = each_drop P n xs h.1

each_map : {X Y : Type 0} (P : X → Type 0) (Q : Y → Type 0) (f : X → Y) → ((x : X) → P x → Q (f x)) → (xs : List X) → Each P xs
    → Each Q (map f xs)
each_map P Q f h [] e = tt
each_map P Q f h (x ∷ xs) e = (h x e.0, each_map P Q f h xs e.1)

-- ---- a row of a table by its range

-- the place of a row's range in a table by rising range
pub place_is : (rows : List RouteRow) (k : ℕ) (c : RouteRow) → IsRouteMap rows → At rows k c → before (λ (r : RouteRow). r.range) c.range.start rows ≡ k
place_is rows k c table e =
    let low = slice_get_within rows k c e in
    let read : get_or rows k c ≡ c = same_item (slice_get-get_or rows k c low) in
    let under = before_under (λ (r : RouteRow). r.range) c.range.start rows k c low (subst (λ (z : RouteRow). c.range.start ≤ z.range.start) (sym read) (omega arith)) in
    let over = after_each k low e in
    omega (arith, under, over)
  where
    same_item : slice_get rows k ≡ Some (get_or rows k c) → get_or rows k c ≡ c
    same_item f = at_one rows k (get_or rows k c) c f e

    after_each : (n : ℕ) → n < length rows → At rows n c → n ≤ before (λ (r : RouteRow). r.range) c.range.start rows
    after_each zero low f = omega arith
    after_each (suc n) low f =
        let less = before_over (λ (r : RouteRow). r.range) c.range.start 0 rows n c (rows_apart rows table) (omega (arith, low))
        (rising rows 0 n (rows_apart rows table) f (omega (arith, low))) in
        omega (arith, less)
      where
        rising : (items : List RouteRow) (bound m : ℕ) → AreApart (λ (r : RouteRow). r.range) bound items → At items (suc m) c → m < length items
            → (get_or items m c).range.start < c.range.start
        rising [] bound m h e lt = absurd (omega arith)
        rising (x ∷ []) bound zero h e lt = cc
        rising (x ∷ y ∷ items) bound zero h e lt =
            let is : y ≡ c = cc in
            subst (λ (z : RouteRow). x.range.start < z.range.start) is (let a = h.1 in let b = h.2.0 in omega (arith, a, b))
        rising (x ∷ items) bound (suc m) h e lt = rising items x.range.end m h.2 e (omega (arith, lt))

-- ---- a list with another element at one place

get_set : {X : Type 0} (xs : List X) (k : ℕ) (d c : X) → At xs k c → At (slice_set xs k d) k d
get_set [] k d c e = cc
get_set (x ∷ xs) zero d c e = refl
get_set (x ∷ xs) (suc k) d c e = get_set xs k d c e

get_set_other : {X : Type 0} (xs : List X) (k l : ℕ) (d : X) → (l ≡ k → ⊥) → slice_get (slice_set xs k d) l ≡ slice_get xs l
get_set_other [] k l d other = refl
get_set_other (x ∷ xs) zero zero d other = absurd (other refl)
get_set_other (x ∷ xs) zero (suc l) d other = refl
get_set_other (x ∷ xs) (suc k) zero d other = refl
get_set_other (x ∷ xs) (suc k) (suc l) d other = get_set_other xs k l d (λ e. other (ap suc e))

-- ---- a table whose rows may have moved

module _ (i : Internet) (ok : Passes i) (settled : IsSettled i) (bounded : IsBounded i) where
  -- a router has a row for each cable
  row_for_cable : (r : ℕ) (x : Router) (c : ℕ) (cable : Cable) → At i.routers r x → At i.cables c cable
      → (k : ℕ) × (a : Row) × At x.rows k a × (is_for a cable ≡ true)
  row_for_cable r x c cable er ec =
      let any : list_any (λ row. is_for row cable) x.rows ≡ true =
      not-false _ (sym (ap (λ q. on q (λ router. on (slice_get i.cables c) (lacks_row router))) er ∙ ap (λ q. on q (lacks_row x)) ec)
      ∙ ok 3 (place.Missing (suc r) (suc c))) in
      let f = find_found _ x.rows any in
      let g = find_at _ x.rows f.0 f.1 in
      (g.0, f.0, g.1, g.2)

  ends_for : (a : Row) (c : Cable) → is_for a c ≡ true → (a.start ≡ c.start) × (a.end ≡ c.end)
  ends_for a c e = let w = and_parts (a.start == c.start) (a.end == c.end) e in (eqb-true _ _ w.0, eqb-true _ _ w.1)

  -- and so a row for the range of another's row
  row_like : (r : ℕ) (x : Router) → At i.routers r x → (s l : ℕ) (their : Router) (o : Row) → At i.routers s their → At their.rows l o
      → (k : ℕ) × (a : Row) × At x.rows k a × (same_range o a ≡ true)
  row_like r x er s l their o es el =
      let good = (row_good i ok s l their o es el).1 in
      let w = index_at (is_for o) i.cables good.0 good.1 in
      let mine = row_for_cable r x good.0 w.0 er w.1 in
      let its = ends_for o w.0 w.2 in
      let own = ends_for mine.1 w.0 mine.3 in
      (mine.0, mine.1, mine.2, same_when o mine.1 (its.0 ∙ sym own.0) (its.1 ∙ sym own.1))

  -- what router s tells of one of its rows
  pub record IsTupleOf (s : ℕ) (their : Router) (t : Tuple) : Type 0 where
    pub place : ℕ
    pub row : Row
    pub row_at : At their.rows place row
    pub range : t.range ≡ record { start = row.start; end = row.end }
    pub far : t.distance ≡ row.distance

  module _ (r n s q : ℕ) (range : Span) (w : AreNeighbours i r n s q range) where
    -- the table with the row of one place after hearing
    pub one_heard : (rows : List RouteRow) → AreMovedRows i r w.router rows → (t : Tuple) → IsTupleOf s w.their t
        → AreMovedRows i r w.router (heard t.range t.distance w.their_port.address n rows).0
    one_heard rows m t told =
        let like = row_like r w.router w.router_at s told.place w.their told.row w.their_at told.row_at in
        let k = like.0 in
        let a = like.1 in
        let low = at_within w.router.rows k a like.2 in
        let same = m.count in
        let now = at_below rows k (omega (arith, low, same)) in
        let c = now.0 in
        let moved = m.each k a c like.2 now.1 in
        let ends = and_parts (told.row.start == a.start) (told.row.end == a.end) like.3 in
        let ranges : c.range ≡ t.range = span_same c.range t.range
        (sym moved.start ∙ (sym (eqb-true _ _ ends.0) ∙ sym (ap (λ (z : Span). z.start) told.range)))
        (sym moved.end ∙ (sym (eqb-true _ _ ends.1) ∙ sym (ap (λ (z : Span). z.end) told.range))) in
        let here : before (λ (z : RouteRow). z.range) t.range.start rows ≡ k =
        subst (λ (z : Span). before (λ (y : RouteRow). y.range) z.start rows ≡ k) ranges (place_is rows k c m.table now.1) in
        let at : IsAt (λ (z : RouteRow). z.range) t.range rows k =
        subst (IsAt (λ (z : RouteRow). z.range) t.range rows) here
        (at_place (λ (z : RouteRow). z.range) t.range rows c (ap (slice_get rows) here ∙ now.1)
        (subst (λ (z : Span). same_span c.range z ≡ true) ranges (and_from _ _ (eq-eqb c.range.start c.range.start refl) (eq-eqb c.range.end c.range.end refl)))) in
        let item : at.item ≡ c = at_one rows k at.item c at.is now.1 in
        let h = there t.range t.distance w.their_port.address n rows k c at m.table item in
        let after : IsMoved i r w.router a (image_row (after_hearing c t.distance w.their_port.address n).0) =
        subst (λ d. IsMoved i r w.router a (image_row (after_hearing c d w.their_port.address n).0)) (sym told.far)
        (hears i ok settled bounded r k w.router a (image_row c) w.router_at like.2 moved n w.port w.port_at s q told.place w.their w.their_port told.row
        w.other w.their_at w.their_port_at w.shared told.row_at like.3) in
        subst (AreMovedRows i r w.router) (sym (ap (λ (z : List RouteRow × Change). z.0) h.is)) (set_moved rows m k a c like.2 now.1 (after_hearing c t.distance w.their_port.address n).0 after h.map)
      where
        span_same : (y z : Span) → y.start ≡ z.start → y.end ≡ z.end → y ≡ z
        span_same y z e f =
            let span : ℕ → ℕ → Span = λ start end. record { start = start; end = end } in
            ap (λ n. span n y.end) e ∙ ap (span z.start) f

        set_moved : (rows : List RouteRow) → AreMovedRows i r w.router rows → (k : ℕ) (a : Row) (c : RouteRow) → At w.router.rows k a
            → At rows k c → (d : RouteRow) → IsMoved i r w.router a (image_row d) → IsRouteMap (slice_set rows k d)
            → AreMovedRows i r w.router (slice_set rows k d)
        set_moved rows m k a c ek ec d moved table =
            record {
              table = table;
              count = m.count ∙ sym (length-set rows k d);
              each = λ l b e eb ee.
                  elim (cases_eq l k) [
                    | inl is ↦
                        let there : At (slice_set rows k d) k e = subst (λ z. At (slice_set rows k d) z e) is ee in
                        let new : d ≡ e = at_one (slice_set rows k d) k d e (get_set rows k d c ec) there in
                        let old : a ≡ b = at_one w.router.rows k a b ek (subst (λ z. At w.router.rows z b) is eb) in
                        subst (λ z. IsMoved i r w.router z (image_row e)) old (subst (λ z. IsMoved i r w.router a (image_row z)) new moved)
                    | inr other ↦ m.each l b e eb (sym (get_set_other rows k l d other) ∙ ee)
                  ];
            }

    -- a full table leaves a new range out; whether it is full, the rows may have moved
    within_heard : (rows : List RouteRow) → AreMovedRows i r w.router rows → (t : Tuple) → IsTupleOf s w.their t
        → AreMovedRows i r w.router (heard_within t.range t.distance w.their_port.address n rows)
    within_heard rows m t told = by _
      where
        by : (full : Bool) → AreMovedRows i r w.router (cond full rows (heard t.range t.distance w.their_port.address n rows).0)
        by true = m
        by false = one_heard rows m t told

    packet_heard : (tuples : List Tuple) → Each (IsTupleOf s w.their) tuples → (rows : List RouteRow) → AreMovedRows i r w.router rows
        → AreMovedRows i r w.router (heard_packet w.their_port.address n tuples rows)
    packet_heard [] told rows m = m
    packet_heard (t ∷ tuples) told rows m =
        packet_heard tuples told.1 (heard_within t.range t.distance w.their_port.address n rows) (within_heard rows m t told.0)

    -- what a router sends of one of its rows, and first of the cable
    sent_told : (theirs : List RouteRow) → AreMovedRows i s w.their theirs → (k : ℕ) (c : RouteRow) → At theirs k c
        → IsTupleOf s w.their (sent_tuple c)
    sent_told theirs m k c ec =
        let low = at_within theirs k c ec in
        let same = m.count in
        let before = at_below w.their.rows k (omega (arith, low, same)) in
        let moved = m.each k before.0 c before.1 ec in
        let span : ℕ → ℕ → Span = λ start end. record { start = start; end = end } in
        record {
          place = k;
          row = before.0;
          row_at = before.1;
          range = ap (λ n. span n c.range.end) (sym moved.start) ∙ ap (span before.0.start) (sym moved.end);
          far = ap (λ u. if u then c.distance else 31) moved.usable ∙ sym moved.distance;
        }

    own_told : IsTupleOf s w.their (own_tuple range)
    own_told =
        let at = w.cable_at in
        let mine = row_for_cable s w.their w.port.cable w.cable w.their_at at in
        let ends = ends_for mine.1 w.cable mine.3 in
        let of = sym (only_cable i mine.1 w.port.cable w.cable (ok 1) at mine.3) in
        let here = index_found (λ (z : Port). z.cable == w.port.cable) w.their.ports q w.their_port w.their_port_at (eq-eqb w.their_port.cable w.port.cable w.shared) in
        let good : bad_direct mine.1 (Some here.0) ≡ false =
        ap (bad_direct mine.1) (sym here.1) ∙ direct_good i ok s mine.0 w.their mine.1 w.port.cable w.their_at mine.2 of in
        let zero_far = (and_parts _ _ (and_parts _ _ (not-false _ good)).0).0 in
        let span : ℕ → ℕ → Span = λ start end. record { start = start; end = end } in
        record {
          place = mine.0;
          row = mine.1;
          row_at = mine.2;
          range = w.spans ∙ (ap (λ n. span n w.cable.end) (sym ends.0) ∙ ap (span mine.1.start) (sym ends.1));
          far = sym (eqb-true mine.1.distance 0 zero_far);
        }

    -- a packet's tuples are those that were written
    tuples_back : (ts : List Tuple) → Each (IsTupleOf s w.their) ts → tuples_of (map written_of ts) ≡ ts
    tuples_back [] told = refl
    tuples_back (t ∷ ts) told =
        let tuple : ℕ → Tuple = λ far. record { range = t.range; distance = far } in
        ap (λ far. tuple far ∷ tuples_of (map written_of ts)) far_back ∙ ap (λ l. t ∷ l) (tuples_back ts told.1)
      where
        low : t.distance ≤ 31
        low = let row = ((bounded.each s w.their w.their_at).each_row told.0.place told.0.row told.0.row_at).distance in
            let far = told.0.far in omega (arith, row, far)

        far_back : (128 + t.distance) % 32 ≡ t.distance
        far_back =
            let sum : 128 + t.distance ≡ t.distance + 32 * 4 = omega arith in
            ap (λ m. m % 32) sum ∙ (add-mul-mod_self_left t.distance 32 4 ∙ mod-eq_of_lt (let l = low in omega (arith, l)))

    pub data_heard : (mine theirs : List RouteRow) → AreMovedRows i r w.router mine → AreMovedRows i s w.their theirs → (m : ℕ)
        (packet : RoutingData) → packet_numbered Split q range w.their_port.address m theirs ≡ Some packet
        → AreMovedRows i r w.router (routes_after Skipped range n packet mine)
    data_heard mine theirs here there m packet e = by (is_from_neighbour range packet)
      where
        sent : List Tuple
        sent = own_tuple range ∷ map sent_tuple (take 96 (drop (m * 96) (rows_sent Split q theirs)))

        each_told : Each (IsTupleOf s w.their) sent
        each_told = (
          own_told,
          each_map (λ (c : RouteRow). IsTupleOf s w.their (sent_tuple c)) (IsTupleOf s w.their) sent_tuple (λ c t. t)
              (take 96 (drop (m * 96) (rows_sent Split q theirs)))
              (each_take _ 96 (drop (m * 96) (rows_sent Split q theirs))
              (each_drop _ (m * 96) (rows_sent Split q theirs)
              (each_filter _ (λ (c : RouteRow). not (c.port == q)) theirs (each_of _ theirs (sent_told theirs there))))),
        )

        data_is : packet ≡ data_of w.their_port.address sent
        data_is = by_room (m == 0 || nat_lt (m * 96) (length (rows_sent Split q theirs))) e
          where
            by_room : (b : Bool) → (if b then Some (data_of w.their_port.address sent) else None) ≡ Some packet
                → packet ≡ data_of w.their_port.address sent
            by_room true f = sym (same_Some (data_of w.their_port.address sent) packet f)
            by_room false f = cc

        by : (b : Bool) → AreMovedRows i r w.router (cond b (heard_packet packet.router n (tuples_of packet.written) mine) mine)
        by true =
            subst (λ (d : RoutingData). AreMovedRows i r w.router (heard_packet d.router n (tuples_of d.written) mine)) (sym data_is)
            (subst (λ ts. AreMovedRows i r w.router (heard_packet w.their_port.address n ts mine)) (sym (tuples_back sent each_told))
            (packet_heard sent each_told mine here))
        by false = here

-- ---- ageing

keeps_all : {X : Type 0} (f : X → Bool) (xs : List X) → ((k : ℕ) (x : X) → At xs k x → f x ≡ true) → filter f xs ≡ xs
keeps_all f [] h = refl
keeps_all f (x ∷ xs) h =
    ap (λ b. if b then x ∷ filter f xs else filter f xs) (h zero x refl) ∙ ap (λ l. x ∷ l) (keeps_all f xs (λ k y e. h (suc k) y e))

-- a row that is direct, or Good, isn't over
over_direct : (c : RouteRow) → is_direct c ≡ true → is_over c ≡ false
over_direct c e = rw e refl

over_good : (c : RouteRow) → c.state ≡ Good → is_over c ≡ false
over_good c e = rw e (and-false (not (is_direct c)))

-- a row's range is looked up whatever its state
still_found : (o : Option Router) (c : RouteRow) (state : State) (x : Row) → same_row o (image_row c) ≡ Some x
    → same_row o (image_row (record c { state = state })) ≡ Some x
still_found None c state x e = e
still_found (Some router) c state x e = e

-- a row that ages while it is Good, or direct
row_aged : (i : Internet) (r : ℕ) (router : Router) (a : Row) (c : RouteRow) → IsMoved i r router a (image_row c)
    → (is_direct c ≡ false → c.state ≡ Good) → IsMoved i r router a (image_row (aged_row c))
row_aged i r router a c m good = by (is_direct c) refl
  where
    by : (d : Bool) → is_direct c ≡ d → IsMoved i r router a (image_row (if d then c else record c { state = older c.state }))
    by true e = m
    by false e =
        record {
          start = m.start;
          end = m.end;
          distance = m.distance;
          usable = ap (λ st. is_usable (older st)) (good e);
          direct = m.direct;
          stays = m.stays;
          leads = λ d.
              let w = m.leads d in
              record {
                port = w.port;
                port_at = w.port_at;
                next = w.next;
                owned = w.owned;
                other = w.other;
                nearer = w.nearer;
                found = still_found (slice_get i.routers w.next) c (older c.state) w.nearer w.found;
                one_less = w.one_less;
              };
        }

pub rows_aged : (i : Internet) (r : ℕ) (router : Router) (rows : List RouteRow) → AreMovedRows i r router rows
    → ((k : ℕ) (c : RouteRow) → At rows k c → is_direct c ≡ false → c.state ≡ Good) → AreMovedRows i r router (aged rows)
rows_aged i r router rows m good =
    record {
      table = aged_map rows m.table;
      count = m.count ∙ (sym (ap length all) ∙ sym (length-map (filter (λ z. not (is_over z)) rows) aged_row));
      each = λ k a d ea ed.
          let w = at_map aged_row rows k d (subst (λ l. At (map aged_row l) k d) all ed) in
          subst (λ z. IsMoved i r router a (image_row z)) (sym w.2)
          (row_aged i r router a w.0 (m.each k a w.0 ea w.1) (good k w.0 w.1));
    }
  where
    over : (c : RouteRow) → (is_direct c ≡ false → c.state ≡ Good) → is_over c ≡ false
    over c h = by (is_direct c) refl
      where
        by : (d : Bool) → is_direct c ≡ d → is_over c ≡ false
        by true e = over_direct c e
        by false e = over_good c (h e)

    all : filter (λ z. not (is_over z)) rows ≡ rows
    all = keeps_all (λ z. not (is_over z)) rows (λ k c e. ap not (over c (good k c e)))
